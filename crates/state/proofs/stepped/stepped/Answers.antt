use Rattle.std.proofs.Common.{◌≡◌, ◌≤◌, ◌+◌, ◌∙◌, Some, ap, refl, subst, sym}
use Rattle.std.specs.Prelude.{option_map}
use Rattle.std.specs.Rc.{rc_value}
use Rattle.std.proofs.lemmas.Result.{IfOk-weaker}
use Rattle.facet_slots.specs.Due.{transition_calls}
use Rattle.facet_slots.specs.Lawful.{IsLawful}
use Rattle.facet_slots.specs.Lent.{defs_of}
use Rattle.facet_slots.specs.Resolving.{IsResolved}
use Rattle.facet_slots.specs.Setups.{Setup}
use Rattle.facet_slots.specs.Slotted.{plain}
use Rattle.facet_slots.specs.Stepping.{Becomes, Target, Update, next, step}
use Rattle.state.specs.Steps.{entered_target, step_calls}
use Rattle.state.specs.PrivateStepping.{IsEntered}
use Rattle.state.proofs.Registered.{later-in, lawful-in, resolved-in, setup-is, setup_with}
use Rattle.state.proofs.stepped.stepped.Goals as goal

pub update-requires-clause-lawful : goal.update-requires-clause-lawful
update-requires-clause-lawful g c =
    subst (IsLawful g.M.Meanings.rules) (sym (setup-is c.args.registry.now c.defs-2.result.now c.defs-2.ensures.defs (defs_of c.in_ok-defs.defs.value) c.in_ok-defs.ensures c.args.slots.now.setup.config c.args.slots.now.setup.config refl))
    (later-in g.M.Meanings.rules c.args.registry.now c.defs-2.ensures.lawful c.defs-2.result.now c.defs-2.ensures.defs c.args.slots.now.setup c.known.ensures.resolved c.requires.grown c.known.ensures.lawful)

pub entered-requires-clause-resolved : goal.entered-requires-clause-resolved
entered-requires-clause-resolved g c =
    let found : IsEntered c.args.registry.now (Some c.in-Some.config.value) = subst (λ o. IsEntered c.args.registry.now (option_map rc_value o)) c.in-Some.is c.requires.config in
    subst IsResolved (sym (setup-is c.args.registry.now c.defs-2.result.now c.defs-2.ensures.defs (defs_of c.in_ok-defs.defs.value) c.in_ok-defs.ensures c.in-Some.config.value c.in-Some.config.value refl))
    (resolved-in g.M.Meanings.rules c.args.registry.now c.defs-2.ensures.lawful c.defs-2.result.now c.defs-2.ensures.defs found.0 c.in-Some.config.value found.1)

pub entered-requires-clause-lawful : goal.entered-requires-clause-lawful
entered-requires-clause-lawful g c =
    let found : IsEntered c.args.registry.now (Some c.in-Some.config.value) = subst (λ o. IsEntered c.args.registry.now (option_map rc_value o)) c.in-Some.is c.requires.config in
    subst (IsLawful g.M.Meanings.rules) (sym (setup-is c.args.registry.now c.defs-2.result.now c.defs-2.ensures.defs (defs_of c.in_ok-defs.defs.value) c.in_ok-defs.ensures c.in-Some.config.value c.in-Some.config.value refl))
    (lawful-in g.M.Meanings.rules c.args.registry.now c.defs-2.ensures.lawful c.defs-2.result.now c.defs-2.ensures.defs found.0 c.in-Some.config.value found.1)

pub returns-in-None-clause-state : goal.returns-in-None-clause-state
returns-in-None-clause-state g c =
    let rules = g.M.Meanings.rules in
    let old = plain c.args.slots.now in
    let here = c.args.slots.now.setup.config in
    let same = setup-is c.args.registry.now c.defs-2.result.now c.defs-2.ensures.defs (defs_of c.in_ok-defs.defs.value) c.in_ok-defs.ensures here here refl in
    IfOk-weaker c.update.result (λ s. plain s ≡ next rules old (setup_with (defs_of c.in_ok-defs.defs.value) here) c.args.transaction.now) (λ s. plain s ≡ step rules old (entered_target c.args.registry.now here (option_map rc_value c.args.config)) c.args.transaction.now)
    (λ s h. h ∙ ap (λ (x : Setup). next rules old x c.args.transaction.now) same ∙ ap (λ (target : Target). step rules old target c.args.transaction.now) (sym (ap (λ o. entered_target c.args.registry.now here (option_map rc_value o)) c.in-None.is))) c.update.ensures.state

pub returns-in-None-clause-cost : goal.returns-in-None-clause-cost
returns-in-None-clause-cost g c =
    let rules = g.M.Meanings.rules in
    let old = plain c.args.slots.now in
    let here = c.args.slots.now.setup.config in
    let same = setup-is c.args.registry.now c.defs-2.result.now c.defs-2.ensures.defs (defs_of c.in_ok-defs.defs.value) c.in_ok-defs.ensures here here refl in
    subst (λ (target : Target). c.update.new.calls ≤ c.args.calls.now + step_calls rules old target c.args.transaction.now) (sym (ap (λ o. entered_target c.args.registry.now here (option_map rc_value o)) c.in-None.is))
    (subst (λ (x : Setup). c.update.new.calls ≤ c.args.calls.now + transition_calls rules (Update c.args.transaction.now) old x) same c.update.ensures.cost)

pub returns-in-Some-clause-state : goal.returns-in-Some-clause-state
returns-in-Some-clause-state g c =
    let rules = g.M.Meanings.rules in
    let old = plain c.args.slots.now in
    let here = c.args.slots.now.setup.config in
    let same = setup-is c.args.registry.now c.defs-2.result.now c.defs-2.ensures.defs (defs_of c.in_ok-defs.defs.value) c.in_ok-defs.ensures c.in-Some.config.value c.in-Some.config.value refl in
    IfOk-weaker c.entered.result (λ s. plain s ≡ step rules old (Becomes (setup_with (defs_of c.in_ok-defs.defs.value) c.in-Some.config.value)) c.args.transaction.now) (λ s. plain s ≡ step rules old (entered_target c.args.registry.now here (option_map rc_value c.args.config)) c.args.transaction.now)
    (λ s h. h ∙ ap (λ (x : Setup). step rules old (Becomes x) c.args.transaction.now) same ∙ ap (λ (target : Target). step rules old target c.args.transaction.now) (sym (ap (λ o. entered_target c.args.registry.now here (option_map rc_value o)) c.in-Some.is))) c.entered.ensures.state

pub returns-in-Some-clause-cost : goal.returns-in-Some-clause-cost
returns-in-Some-clause-cost g c =
    let rules = g.M.Meanings.rules in
    let old = plain c.args.slots.now in
    let here = c.args.slots.now.setup.config in
    let same = setup-is c.args.registry.now c.defs-2.result.now c.defs-2.ensures.defs (defs_of c.in_ok-defs.defs.value) c.in_ok-defs.ensures c.in-Some.config.value c.in-Some.config.value refl in
    subst (λ (target : Target). c.entered.new.calls ≤ c.args.calls.now + step_calls rules old target c.args.transaction.now) (sym (ap (λ o. entered_target c.args.registry.now here (option_map rc_value o)) c.in-Some.is))
    (subst (λ (x : Setup). c.entered.new.calls ≤ c.args.calls.now + step_calls rules old (Becomes x) c.args.transaction.now) same c.entered.ensures.cost)
