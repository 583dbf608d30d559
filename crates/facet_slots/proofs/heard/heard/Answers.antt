use Rattle.facet_slots.proofs.Held.{heard-is}
use Rattle.facet_slots.proofs.heard.heard.Goals as goal

pub with_effects-requires : goal.with_effects-requires
with_effects-requires c =
    rw (c.in_ok-effects.ensures, c.effects.ensures)
    (heard-is c.args.listens.now c.args.transaction.now c.known.ensures).effects
