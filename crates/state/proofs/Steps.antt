-- What the specs come to, what was found after their effects, and the state that was stepped to, are one step.
use Rattle.std.proofs.Common.{◌≡◌, ◌≤◌, ◌+◌, ◌∙◌, ℕ, List, Bool, cond, Option, None, Some, Ok, Err, refl, sym, ap, subst}
use Rattle.std.specs.Prelude.{option_map}
use Rattle.std.specs.Result.{result_err}
use Rattle.configuration.specs.Config.{ConfigView}
use Rattle.transaction.specs.declared.draft.Draft.{Draft}
use Rattle.transaction.specs.declared.spec.Spec.{Spec}
use Rattle.values.specs.declared.val.Val.{Val}
use Rattle.values.specs.Declarations.{Declarations}
use Rattle.values.specs.Rules.{Rules}
use Rattle.values.specs.Views.{TransactionView}
use Rattle.filters.specs.Outcomes.{Outcome}
use Rattle.facet_slots.specs.Lent.{definitions}
use Rattle.facet_slots.specs.Setups.{Setup}
use Rattle.facet_slots.specs.Stepping.{State, Target, Stays, Becomes, step}
use Rattle.state.specs.declared.state_error.StateError.{StateError}
use Rattle.state.specs.Drafting.{draft_of}
use Rattle.state.specs.Moving.{transaction_of}
use Rattle.state.specs.Plainly.{config_after, stepped_by, stepped_to, unordered, unordered_config, updated_from}
use Rattle.state.specs.Reconfigured.{IsConfigAfter, IsSetupAfter, extensions_after, extensions_of, setup_in}
use Rattle.state.specs.Refusals.{of_transaction_error}
use Rattle.state.specs.Steps.{IsStepTo, entered_target, step_calls, target_of}
use Rattle.state.specs.PrivateFound.{IsConfigFound}
use Rattle.state.specs.PrivateStepping.{IsEntered}

-- the setup that is stepped to
abbrev entered_setup : Declarations → ConfigView → Option ConfigView → Setup
entered_setup d old None = setup_in d old
entered_setup d old (Some config) = setup_in d config

-- what was found is what some extensions come to
pub found-entered : (d : Declarations) (old : ConfigView) (draft : Draft Val) (config : Option ConfigView) → IsConfigFound d old draft.effects config → IsEntered d config
found-entered d old draft None found = tt
found-entered d old draft (Some config) found = (extensions_after (extensions_of old) draft.effects, found.1)

step-setup : (rules : Rules) (old : State) (t : TransactionView) (d : Declarations) (was : ConfigView) (config : Option ConfigView) → (step rules old (entered_target d was config) t).setup ≡ entered_setup d was config
step-setup rules old t d was None = refl
step-setup rules old t d was (Some config) = refl

entered-defs : (d : Declarations) (was : ConfigView) (config : Option ConfigView) → (entered_setup d was config).defs ≡ definitions d
entered-defs d was None = refl
entered-defs d was (Some config) = refl

-- no value goes by the order of a configuration
step-unordered : (rules : Rules) (d : Declarations) (old : State) (draft : Draft Val) (config : Option ConfigView)
    → step rules (unordered old) (entered_target d (unordered_config old.setup.config) (option_map unordered_config config)) (transaction_of d (unordered old) draft) ≡ unordered (step rules old (entered_target d old.setup.config config) (transaction_of d old draft))
step-unordered rules d old draft None = refl
step-unordered rules d old draft (Some config) = refl

module _ (rules : Rules) (d : Declarations) (old : State) (specs : List (Spec Val)) where
  module _ (draft : Draft Val) (comes : draft_of rules d old specs ≡ Ok draft) where
    -- the setup that was found is one that the draft leads to
    found-setup : (config : Option ConfigView) → IsConfigFound d old.setup.config draft.effects config → IsSetupAfter d old.setup.config draft.effects (entered_setup d old.setup.config config)
    found-setup None found = record {
      defs = refl;
      config = subst (λ (b : Bool). IsConfigAfter b d old.setup.config draft.effects old.setup.config) (sym found) refl;
    }
    found-setup (Some config) found = record {
      defs = refl;
      config = subst (λ (b : Bool). IsConfigAfter b d old.setup.config draft.effects config) (sym found.0) found.1;
    }

    -- and the target that was found is that of the draft
    found-target : (config : Option ConfigView) → IsConfigFound d old.setup.config draft.effects config → target_of draft (entered_setup d old.setup.config config) ≡ entered_target d old.setup.config config
    found-target None found = ap (λ (b : Bool). cond b (Becomes (setup_in d old.setup.config)) (Stays (setup_in d old.setup.config))) found
    found-target (Some config) found = ap (λ (b : Bool). cond b (Becomes (setup_in d config)) (Stays (setup_in d config))) found.0

    pub not-found : (error : StateError) → config_after d old.setup.config draft.effects ≡ Err error → updated_from rules d (unordered old) specs ≡ Err error
    not-found error refused = ap (stepped_by rules d (unordered old)) comes ∙ ap (stepped_to rules d (unordered old) draft) refused

    module _ (config : Option ConfigView) (found : IsConfigFound d old.setup.config draft.effects config) where
      -- the calls that were paid are those to the setup that was found
      pub paid-found : (before after : ℕ) → after ≤ before + step_calls rules old (entered_target d old.setup.config config) (transaction_of d old draft) → IsStepTo rules d old specs (entered_setup d old.setup.config config) before after
      paid-found before after paid = record {
        draft = draft;
        comes = comes;
        leads = found-setup config found;
        paid = subst (λ (target : Target). after ≤ before + step_calls rules old target (transaction_of d old draft)) (sym (found-target config found)) paid;
      }

      module _ (new : State) (made : new ≡ step rules old (entered_target d old.setup.config config) (transaction_of d old draft)) where
        new-setup : new.setup ≡ entered_setup d old.setup.config config
        new-setup = ap (λ (s : State). s.setup) made ∙ step-setup rules old (transaction_of d old draft) d old.setup.config config

        pub new-defs : new.setup.defs ≡ definitions d
        new-defs = ap (λ (setup : Setup). setup.defs) new-setup ∙ entered-defs d old.setup.config config

        pub step-is : config_after d old.setup.config draft.effects ≡ Ok (option_map unordered_config config) → updated_from rules d (unordered old) specs ≡ Ok (unordered new)
        step-is after =
            ap (stepped_by rules d (unordered old)) comes
            ∙ ap (stepped_to rules d (unordered old) draft) after
            ∙ ap (λ (s : State). Ok s) (step-unordered rules d old draft config)
            ∙ ap (λ (s : State). Ok (unordered s)) (sym made)

        pub step-paid : (before after : ℕ) → after ≤ before + step_calls rules old (entered_target d old.setup.config config) (transaction_of d old draft) → IsStepTo rules d old specs new.setup before after
        step-paid before after paid = subst (λ (setup : Setup). IsStepTo rules d old specs setup before after) (sym new-setup) (paid-found before after paid)

  some-back : {X : Type 0} {x y : X} → Some x ≡ Some y → x ≡ y
  some-back e = cc

  none-some : {X : Type 0} {x : X} → None ≡ Some x → ⊥
  none-some e = cc

  refused-by : (o : Outcome) (error : StateError) → option_map of_transaction_error (result_err o) ≡ Some error → stepped_by rules d (unordered old) o ≡ Err error
  refused-by (Ok draft) error e = absurd (none-some e)
  refused-by (Err first) error e = ap (λ (x : StateError). Err x) (some-back e)

  pub specs-refused : (error : StateError) → option_map of_transaction_error (result_err (draft_of rules d old specs)) ≡ Some error → updated_from rules d (unordered old) specs ≡ Err error
  specs-refused error e = refused-by (draft_of rules d old specs) error e
