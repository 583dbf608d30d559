use Rattle.std.proofs.Common.{◌≡◌, ◌∙◌, ap}
use Rattle.std.proofs.lemmas.Result.{IfOk-weaker}
use Rattle.configuration.specs.declared.defs.Defs.{Defs}
use Rattle.values.specs.declared.val.Val.{Val}
use Rattle.facet_slots.specs.Lent.{defs_of}
use Rattle.facet_slots.specs.Slotted.{plain}
use Rattle.facet_slots.specs.Stepping.{Becomes, next, step}
use Rattle.state.proofs.Entering.{calls-add, next-is}
use Rattle.state.proofs.stepped.entered.Goals as goal

pub returns-clause-state : goal.returns-clause-state
returns-clause-state g c =
    let rules = g.M.Meanings.rules in
    let defs = defs_of c.args.defs.value in
    let again = defs_of c.in_ok-again.again.value in
    IfOk-weaker c.update.result (λ s. plain s ≡ next rules (plain c.in_ok-mid.mid) (record { defs = again; config = c.in_ok-mid.mid.setup.config }) c.args.transaction.now) (λ s. plain s ≡ step rules (plain c.args.slots.now) (Becomes (record { defs = defs; config = c.args.config.value })) c.args.transaction.now)
    (λ s h. h ∙ next-is rules (plain c.args.slots.now) defs c.args.config.value c.args.transaction.now (plain c.in_ok-mid.mid) c.in_ok-mid.ensures.state again (ap (λ (d : Defs Val). defs_of d) c.in_ok-again.ensures.cases)) c.update.ensures.state

pub returns-clause-cost : goal.returns-clause-cost
returns-clause-cost g c =
    calls-add g.M.Meanings.rules (plain c.args.slots.now) (defs_of c.args.defs.value) c.args.config.value c.args.transaction.now (plain c.in_ok-mid.mid) c.in_ok-mid.ensures.state (defs_of c.in_ok-again.again.value) (ap (λ (d : Defs Val). defs_of d) c.in_ok-again.ensures.cases)
    c.args.calls.now c.reconfigure.new.calls c.update.new.calls c.reconfigure.ensures.cost c.update.ensures.cost
