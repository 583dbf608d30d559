-- The mid state and then the next one are the step into a setup.
use Rattle.std.proofs.Common.{◌≡◌, ◌≤◌, ◌+◌, ◌∙◌, ℕ, ap, arith}
use Rattle.configuration.specs.Config.{ConfigView}
use Rattle.values.specs.Rules.{Rules}
use Rattle.values.specs.Views.{TransactionView}
use Rattle.facet_slots.specs.Due.{transition_calls}
use Rattle.facet_slots.specs.Setups.{Definitions, Setup}
use Rattle.facet_slots.specs.Stepping.{Becomes, Enter, State, Update, mid, next, step}
use Rattle.state.specs.Steps.{step_calls}

abbrev with_config : Definitions → ConfigView → Setup
with_config defs config = record { defs = defs; config = config }

module _ (rules : Rules) (old : State) (defs : Definitions) (config : ConfigView) (t : TransactionView) (entered : State) (is : entered ≡ mid rules old (record { defs = defs; config = config })) (again : Definitions) (same : again ≡ defs) where
  setup-same : with_config again entered.setup.config ≡ with_config defs config
  setup-same = ap (λ (d : Definitions). with_config d entered.setup.config) same ∙ ap (λ (s : State). with_config defs s.setup.config) is

  pub next-is : next rules entered (record { defs = again; config = entered.setup.config }) t ≡ step rules old (Becomes (record { defs = defs; config = config })) t
  next-is = ap (λ (s : Setup). next rules entered s t) setup-same ∙ ap (λ (s : State). next rules s (with_config defs config) t) is

  calls-same : transition_calls rules (Update t) entered (with_config again entered.setup.config) ≡ transition_calls rules (Update t) (mid rules old (with_config defs config)) (with_config defs config)
  calls-same = ap (transition_calls rules (Update t) entered) setup-same ∙ ap (λ (s : State). transition_calls rules (Update t) s (with_config defs config)) is

  pub calls-add : (before between after : ℕ) → between ≤ before + transition_calls rules Enter old (record { defs = defs; config = config }) → after ≤ between + transition_calls rules (Update t) entered (record { defs = again; config = entered.setup.config })
      → after ≤ before + step_calls rules old (Becomes (record { defs = defs; config = config })) t
  calls-add before between after p q =
      let e : transition_calls rules (Update t) entered (with_config again entered.setup.config) ≡ transition_calls rules (Update t) (mid rules old (with_config defs config)) (with_config defs config) = calls-same in
      omega (arith, p, q, e)
