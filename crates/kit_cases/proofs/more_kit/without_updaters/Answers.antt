use Rattle.std.proofs.Common.{All, subst, sym}
use Rattle.std.proofs.lemmas.List.Elements.{All-take}
use Rattle.kit_cases.specs.More.{more}
use Rattle.values.specs.Stored.{Updates}
use Rattle.kit_cases.proofs.more_kit.without_updaters.Goals as goal

pub new-requires : goal.new-requires
new-requires g c = record { combiners = c.requires.answers.combiners; comparers = c.requires.answers.comparers; computers = c.requires.answers.computers; list_computers = c.requires.answers.list_computers; creators = c.requires.answers.creators; updaters = subst (All (Updates more)) (sym c.truncate.ensures.items) (All-take (Updates more) 3 c.args.kit.lists.updaters.items c.requires.answers.updaters); effect_maps = c.requires.answers.effect_maps; change_guards = c.requires.answers.change_guards; filters = c.requires.answers.filters; extenders = c.requires.answers.extenders }
