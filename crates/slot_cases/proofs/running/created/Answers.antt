use Rattle.facet_slots.specs.Lent.{definitions, defs_of}
use Rattle.slot_cases.proofs.Sharing.{lawful-shared, resolved-shared}
use Rattle.slot_cases.proofs.running.created.Goals as goal

pub fresh-requires-clause-resolved : goal.fresh-requires-clause-resolved
fresh-requires-clause-resolved g c = resolved-shared (definitions c.args.registry.now) (defs_of c.in_ok-defs.defs.value) c.in_ok-config.config.value c.in_ok-defs.ensures c.in_ok-config.ensures.resolved

pub fresh-requires-clause-lawful : goal.fresh-requires-clause-lawful
fresh-requires-clause-lawful g c = lawful-shared (definitions c.args.registry.now) (defs_of c.in_ok-defs.defs.value) c.in_ok-config.config.value c.in_ok-defs.ensures c.in_ok-config.ensures.lawful
