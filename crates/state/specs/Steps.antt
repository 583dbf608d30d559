-- Where the specs of an update lead from a state, and how many calls that is due (Reference Manual, EditorState.update).
use Rattle.std.specs.Prelude.{◌≡◌, ◌≤◌, ◌+◌, ℕ, List, cond, None, Option, Some, Ok, ◌⊎◌}
use Rattle.configuration.specs.Config.{ConfigView}
use Rattle.transaction.specs.declared.draft.Draft.{Draft}
use Rattle.transaction.specs.declared.spec.Spec.{Spec}
use Rattle.values.specs.declared.val.Val.{Val}
use Rattle.values.specs.Declarations.{Declarations}
use Rattle.values.specs.Rules.{Rules}
use Rattle.values.specs.Views.{TransactionView}
use Rattle.facet_slots.specs.Due.{transition_calls}
use Rattle.facet_slots.specs.Setups.{Setup}
use Rattle.facet_slots.specs.Stepping.{State, Target, Stays, Becomes, Enter, Update, mid}
use Rattle.state.specs.Drafting.{draft_of}
use Rattle.state.specs.Moving.{transaction_of}
use Rattle.state.specs.Reconfigured.{IsSetupAfter, configures, setup_in}

-- Target: the old configuration stays where none was found after effects, else that one takes its place.
abbrev pub entered_target : Declarations → ConfigView → Option ConfigView → Target
entered_target d old None = Stays (setup_in d old)
entered_target d old (Some config) = Becomes (setup_in d config)

-- the bound of calls of a step: those of entering a configuration, over the old document and selection, and those of the
-- transaction
abbrev pub step_calls : Rules → State → Target → TransactionView → ℕ
step_calls rules old (Stays setup) t = transition_calls rules (Update t) old setup
step_calls rules old (Becomes setup) t = transition_calls rules Enter old setup + transition_calls rules (Update t) (mid rules old setup) setup

-- what a draft does to the configuration: where an effect is on it, the setup takes the place of the old one
abbrev pub target_of : Draft Val → Setup → Target
target_of draft setup = cond (configures draft.effects) (Becomes setup) (Stays setup)

-- Paid: the specs come to a draft, which leads to a setup, and its calls keep to the bound of that step.
pub record IsStepTo (rules : Rules) (d : Declarations) (old : State) (specs : List (Spec Val)) (setup : Setup) (before after : ℕ) : Type 0 where
  pub draft : Draft Val
  pub comes : draft_of rules d old specs ≡ Ok draft
  pub leads : IsSetupAfter d old.setup.config draft.effects setup
  pub paid : after ≤ before + step_calls rules old (target_of draft setup) (transaction_of d old draft)

-- nothing was called, or a setup that the specs lead to was stepped to, within its bound
abbrev pub IsStepPaid : Rules → Declarations → State → List (Spec Val) → (before after : ℕ) → Type 0
IsStepPaid rules d old specs before after = (after ≡ before) ⊎ ((setup : Setup) × IsStepTo rules d old specs setup before after)
