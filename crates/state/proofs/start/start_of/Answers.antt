use Rattle.std.proofs.Common.{subst, sym}
use Rattle.transaction.specs.Effects.{HasMaps}
use Rattle.state.proofs.KnownMaps.{has-maps}
use Rattle.state.proofs.start.start_of.Goals as goal

pub returns-clause-maps : goal.returns-clause-maps
returns-clause-maps g c =
    subst (HasMaps g.M.Meanings.rules.effect_maps) (sym c.kinds.ensures.maps) (has-maps g.M.Meanings.rules c.args.registry.now.maps c.known.ensures.lawful.maps)
