use Rattle.std.proofs.Common.{sym, ◌∙◌}
use Rattle.transaction.proofs.Within.{map-number}
use Rattle.filters.proofs.effects.moved_effect.Goals as goal

pub effect_map-requires-clause-number : goal.effect_map-requires-clause-number
effect_map-requires-clause-number g c =
    map-number g.M.Meanings.rules.effect_maps c.args.kinds.now.maps c.in-Kind.id c.in-Some.number c.requires.maps (sym c.map_of.ensures ∙ c.in-Some.is)
