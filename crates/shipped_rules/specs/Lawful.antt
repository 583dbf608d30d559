-- The shipped rules are lawful.
use Rattle.std.specs.Prelude.{◌≡◌, ℕ, List, [], ◌∷◌, All, Option, refl}
use Rattle.std.specs.List.{AllByRecursion}
use Rattle.std.proofs.Common.{arith}
use Rattle.std.proofs.lemmas.List.Elements.{recursion_from_All, All-from_recursion}
use Rattle.cm_plain.specs.Form.{Form}
use Rattle.transaction.specs.Numbers.{IsNumber}
use Rattle.values.specs.declared.val.Val.{Val}
use Rattle.values.specs.InRange.{IsInRange}
use Rattle.values.specs.Vals.{IsOf}
use Rattle.values.specs.Views.{AreDeps, DepsView, IsTransaction, TransactionView}
use Rattle.values.specs.Combining.{combine, combine_input, combine_output}
use Rattle.values.specs.Computing.{compute, compute_output}
use Rattle.values.specs.ListComputing.{compute_list, list_output}
use Rattle.values.specs.Creating.{create, create_output}
use Rattle.values.specs.Updating.{update, update_shape}
use Rattle.values.specs.Rules.{AreLawful}
use Rattle.values.specs.Shipped.{shipped, KeepsShipped}
use Rattle.shipped_rules.specs.InRange.{Fits, combine-range, compute-range, create-range, list-range, update-range}
use Rattle.shipped_rules.specs.Fitting.{combine-fits, compare-sound, compute-fits, create-fits, list-fits, update-fits}

shapes-of : (f : Form) (vs : List Val) → AllByRecursion (IsOf f) vs → AllByRecursion (Fits f) vs
shapes-of f [] a = tt
shapes-of f (v ∷ vs) a = (a.0.shape, shapes-of f vs a.1)

ranges-of : (f : Form) (vs : List Val) → AllByRecursion (IsOf f) vs → AllByRecursion IsInRange vs
ranges-of f [] a = tt
ranges-of f (v ∷ vs) a = (a.0.range, ranges-of f vs a.1)

both-of : (f : Form) (vs : List Val) → AllByRecursion (Fits f) vs → AllByRecursion IsInRange vs → AllByRecursion (IsOf f) vs
both-of f [] a b = tt
both-of f (v ∷ vs) a b = (record { shape = a.0; range = b.0 }, both-of f vs a.1 b.1)

-- Combine: by any numbers of change guards, filters and extenders that are at least the shipped ones, so that whoever adds rules
-- may use it.
pub combine-lawful : (guards filters extenders n : ℕ) (vs : List Val) → IsNumber shipped.combiners n → All (IsOf (combine_input guards filters extenders n)) vs → IsOf (combine_output n) (combine n vs)
combine-lawful guards filters extenders n vs is a =
    let each = recursion_from_All (IsOf (combine_input guards filters extenders n)) vs a in
    let fit : Fits (combine_output n) (combine n vs) = combine-fits guards filters extenders n vs is (shapes-of (combine_input guards filters extenders n) vs each) (ranges-of (combine_input guards filters extenders n) vs each) in
    record { shape = fit; range = combine-range n vs is (ranges-of (combine_input guards filters extenders n) vs each) fit }

pub compute-lawful : (n : ℕ) (deps : DepsView) → IsNumber shipped.computers n → AreDeps deps → IsOf (compute_output n) (compute n deps)
compute-lawful n deps is a =
    let fit : Fits (compute_output n) (compute n deps) = compute-fits n deps is a in
    record { shape = fit; range = compute-range n deps is a fit }

pub list-lawful : (n : ℕ) (deps : DepsView) → IsNumber shipped.list_computers n → AreDeps deps → All (IsOf (list_output n)) (compute_list n deps)
list-lawful n deps is a =
    let fit : AllByRecursion (Fits (list_output n)) (compute_list n deps) = list-fits n deps is a in
    All-from_recursion (IsOf (list_output n)) (compute_list n deps) (both-of (list_output n) (compute_list n deps) fit (list-range n deps is a fit))

pub create-lawful : (n : ℕ) (deps : DepsView) → IsNumber shipped.creators n → AreDeps deps → IsOf (create_output n) (create n deps)
create-lawful n deps is a =
    let fit : Fits (create_output n) (create n deps) = create-fits n deps is a in
    record { shape = fit; range = create-range n deps is a fit }

pub update-lawful : (n : ℕ) (old : Val) (t : TransactionView) (deps : DepsView) → IsNumber shipped.updaters n → IsOf (update_shape n) old → IsTransaction t → AreDeps deps → IsOf (update_shape n) (update n old t deps)
update-lawful n old t deps is h i a =
    let fit : Fits (update_shape n) (update n old t deps) = update-fits n old t deps is h.shape i a in
    record { shape = fit; range = update-range n old t deps is h.range i a fit }

pub shipped-lawful : AreLawful shipped
shipped-lawful = record {
  combine_fits = combine-lawful 3 4 3;
  compare_sound = λ n old new is e. compare-sound n old new is e;
  compute_fits = compute-lawful;
  list_fits = list-lawful;
  create_fits = create-lawful;
  update_fits = update-lawful;
}

-- the shipped rules keep their own meanings
pub shipped-keeps : KeepsShipped shipped
shipped-keeps = record {
  combiners = omega arith;
  combine_input = record { kept = λ n is. refl };
  combine_output = record { kept = λ n is. refl };
  combine = record { kept = λ n is. refl };
  comparers = omega arith;
  compare = record { kept = λ n is. refl };
  computers = omega arith;
  compute_output = record { kept = λ n is. refl };
  compute = record { kept = λ n is. refl };
  list_computers = omega arith;
  list_output = record { kept = λ n is. refl };
  compute_list = record { kept = λ n is. refl };
  creators = omega arith;
  create_output = record { kept = λ n is. refl };
  create = record { kept = λ n is. refl };
  updaters = omega arith;
  update_shape = record { kept = λ n is. refl };
  update = record { kept = λ n is. refl };
  effect_maps = omega arith;
  map_effect = record { kept = λ n is. refl };
  change_guards = omega arith;
  guard = record { kept = λ n is. refl };
  transaction_filters = omega arith;
  filter = record { kept = λ n is. refl };
  extenders = omega arith;
  extend = record { kept = λ n is. refl };
}
