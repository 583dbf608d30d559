-- What the numbers of each sort of rule mean, and what all rules keep to.
use Rattle.std.specs.Prelude.{◌≡◌, ℕ, ◌≤◌, Bool, true, List, All, Option}
use Rattle.change_desc.specs.declared.section.Section.{Section}
use Rattle.cm_plain.specs.Form.{Form}
use Rattle.transaction.specs.Numbers.{IsNumber}
use Rattle.values.specs.declared.val.Val.{Val}
use Rattle.values.specs.declared.answers.Guarding.{Guarding}
use Rattle.values.specs.declared.answers.Filtering.{Filtering}
use Rattle.values.specs.declared.answers.Extension.{Extension}
use Rattle.values.specs.Vals.{IsOf}
use Rattle.values.specs.Views.{AreDeps, DepsView, IsTransaction, TransactionView}

-- Rules: of each sort how many numbers there are (they run from 1), what shapes a number takes and gives, and what it answers.
pub record Rules : Type 0 where
  pub combiners : ℕ
  pub combine_input : ℕ → Form
  pub combine_output : ℕ → Form
  pub combine : ℕ → List Val → Val
  pub comparers : ℕ
  pub compare : ℕ → (old new : Val) → Bool
  pub computers : ℕ
  pub compute_output : ℕ → Form
  pub compute : ℕ → DepsView → Val
  pub list_computers : ℕ
  pub list_output : ℕ → Form
  pub compute_list : ℕ → DepsView → List Val
  pub creators : ℕ
  pub create_output : ℕ → Form
  pub create : ℕ → DepsView → Val
  pub updaters : ℕ
  pub update_shape : ℕ → Form
  pub update : ℕ → (old : Val) → TransactionView → DepsView → Val
  pub effect_maps : ℕ
  pub map_effect : ℕ → Val → List (Section ℕ) → Option Val
  pub change_guards : ℕ
  pub guard : ℕ → TransactionView → (filter_data : Val) → Guarding
  pub transaction_filters : ℕ
  pub filter : ℕ → TransactionView → (filter_data : Val) → Filtering
  pub extenders : ℕ
  pub extend : ℕ → TransactionView → (filter_data : Val) → Extension

-- Lawful: each answer is of its rule's output shape, and a comparer says 'same' of equal values alone.
pub record AreLawful (rules : Rules) : Type 0 where
  pub combine_fits : (n : ℕ) (inputs : List Val) → IsNumber rules.combiners n → All (IsOf (rules.combine_input n)) inputs → IsOf (rules.combine_output n) (rules.combine n inputs)
  pub compare_sound : (n : ℕ) (old new : Val) → IsNumber rules.comparers n → rules.compare n old new ≡ true → old ≡ new
  pub compute_fits : (n : ℕ) (deps : DepsView) → IsNumber rules.computers n → AreDeps deps → IsOf (rules.compute_output n) (rules.compute n deps)
  pub list_fits : (n : ℕ) (deps : DepsView) → IsNumber rules.list_computers n → AreDeps deps → All (IsOf (rules.list_output n)) (rules.compute_list n deps)
  pub create_fits : (n : ℕ) (deps : DepsView) → IsNumber rules.creators n → AreDeps deps → IsOf (rules.create_output n) (rules.create n deps)
  pub update_fits : (n : ℕ) (old : Val) (t : TransactionView) (deps : DepsView) → IsNumber rules.updaters n → IsOf (rules.update_shape n) old → IsTransaction t → AreDeps deps → IsOf (rules.update_shape n) (rules.update n old t deps)
