use Rattle.registry.proofs.refusals.init_refusal.Goals as goal

-- a field that is declared is lawful, and so its updater is known
pub is_init-requires : goal.is_init-requires
is_init-requires g c = (c.requires.fields c.args.field c.field.result.now c.field.ensures).update
