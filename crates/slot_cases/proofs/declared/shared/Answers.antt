use Rattle.std.proofs.Common.{◌≡◌, ◌∙◌}
use Rattle.std.proofs.lemmas.Result.{IfOk-weaker}
use Rattle.facet_slots.specs.Lent.{definitions, defs_of}
use Rattle.facet_slots.proofs.Declared.{lent-are}
use Rattle.slot_cases.proofs.declared.shared.Goals as goal

pub returns : goal.returns
returns c =
    IfOk-weaker c.shared_defs.result (λ defs. defs_of defs.value ≡ defs_of c.defs.result.now) (λ defs. defs_of defs.value ≡ definitions c.args.registry.now)
    (λ defs h. h ∙ lent-are c.defs.result.now c.args.registry.now c.defs.ensures.defs) c.shared_defs.ensures
