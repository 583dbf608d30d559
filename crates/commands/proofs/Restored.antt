-- When no item of a history is restored.
use Rattle.std.proofs.Common.{◌≡◌, ℕ, Bool, true, false, cond, ◌&&◌, ℤ, List, [], ◌∷◌, Option, Some, None, is_none, refl}
use Rattle.std.specs.Prelude.{IfOk, Result, Ok, Err}
use Rattle.std.specs.Option.{option_and_then}
use Rattle.transaction.specs.declared.spec.Spec.{Spec}
use Rattle.history.specs.declared.item.Item.{Item}
use Rattle.history.specs.declared.item.Item.TheVariants.{Change, Select}
use Rattle.history.specs.declared.restore.Restore.{Restore}
use Rattle.history.specs.Reading.{restored_item}
use Rattle.values.specs.declared.val.Val.{Val}
use Rattle.commands.specs.Editing.{SceneView}
use Rattle.commands.specs.Undoing.{has_no_item, restoring_item}

none-allowed : (read_only : Bool) (spec : Spec Val) → is_none (cond read_only None (Some spec)) ≡ (read_only && true)
none-allowed true spec = refl
none-allowed false spec = refl

none-select : (read_only : Bool) → false ≡ (read_only && false)
none-select true = refl
none-select false = refl

none-item : (change select : ℤ) (s : SceneView) (event other : List ℕ) (items : List Item)
    → is_none (option_and_then (restoring_item s event other) (restored_item change select items)) ≡ has_no_item s.read_only items
none-item change select s event other [] = refl
none-item change select s event other (Change c ∷ items) = none-allowed s.read_only _
none-item change select s event other (Select l ∷ items) = none-select s.read_only

pub none-restored : {E : Type 0} (change select : ℤ) (s : SceneView) (event other : List ℕ) (items : List Item) (restore : Option Restore) (r : Result (Option (Spec Val)) E)
    → restore ≡ restored_item change select items → IfOk r (λ spec. spec ≡ option_and_then (restoring_item s event other) restore) → IfOk r (λ spec. is_none spec ≡ has_no_item s.read_only items)
none-restored change select s event other items restore (Ok spec) is made = rw (made, is) (none-item change select s event other items)
none-restored change select s event other items restore (Err e) is made = tt
