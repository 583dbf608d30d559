use Rattle.std.proofs.Common.{All, subst, sym}
use Rattle.std.proofs.lemmas.List.Elements.{All-take}
use Rattle.kit_cases.specs.More.{more}
use Rattle.values.specs.Stored.{Combines}
use Rattle.kit_cases.proofs.more_kit.without_combiner.Goals as goal

pub new-requires : goal.new-requires
new-requires g c = record { combiners = subst (All (Combines more)) (sym c.truncate.ensures.items) (All-take (Combines more) 13 c.args.kit.lists.combiners.items c.requires.answers.combiners); comparers = c.requires.answers.comparers; computers = c.requires.answers.computers; list_computers = c.requires.answers.list_computers; creators = c.requires.answers.creators; updaters = c.requires.answers.updaters; effect_maps = c.requires.answers.effect_maps; change_guards = c.requires.answers.change_guards; filters = c.requires.answers.filters; extenders = c.requires.answers.extenders }
