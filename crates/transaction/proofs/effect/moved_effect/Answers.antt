use Rattle.std.proofs.Common.{sym, ◌∙◌}
use Rattle.transaction.proofs.Within.{map-number}
use Rattle.transaction.proofs.effect.moved_effect.Goals as goal

pub map-requires-clause-known : goal.map-requires-clause-known
map-requires-clause-known g c =
    map-number (g.M.EffectMaps.map_count c.args.frame.now.maps.now) c.args.frame.now.kinds.now.maps c.in-Kind.id c.in-Some.number c.requires.frame.known (sym c.map_of.ensures ∙ c.in-Some.is)
