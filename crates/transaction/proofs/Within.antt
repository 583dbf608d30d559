-- Selections inside documents, and lengths under a limit.
use Rattle.std.proofs.Common.{◌≡◌, ℕ, zero, suc, ◌≤◌, Bool, true, false, cond, List, [], ◌∷◌, Option, Some, None, refl, subst}
use Rattle.std.specs.Option.{option_or}
use Rattle.std.proofs.lemmas.Bool.{ltb-false}
use Rattle.std.specs.Prelude.{ltb}
use Rattle.change_desc.specs.Sections.{spelled, new_size}
use Rattle.selection.specs.Selections.{SelectionView}
use Rattle.transaction.specs.Effects.{HasMaps, map_of}
use Rattle.transaction.specs.Merging.{Changes, SelectionIn}
use Rattle.transaction.specs.Numbers.{IsNumber}
use Rattle.transaction.specs.Refusals.{too_long}
use Rattle.transaction.specs.declared.error.TransactionError.TheVariants.{TooLong}

pub within : (m n : ℕ) (s t : Option SelectionView) → m ≡ n → s ≡ t → SelectionIn m s → SelectionIn n t
within m n s t e f h = subst (λ k. SelectionIn k t) e (subst (SelectionIn m) f h)

-- the later selection, or else the earlier one
pub or-inside : (len : ℕ) (a b : Option SelectionView) → SelectionIn len a → SelectionIn len b → SelectionIn len (option_or a b)
or-inside len None b h k = k
or-inside len (Some s) b h k = h

-- what is not too long
pub is-short : (max : ℕ) (total : Changes) → too_long max total ≡ None → new_size spelled total ≤ max
is-short max total h = cases (ltb max (new_size spelled total)) refl h
  where
    cases : (b : Bool) → ltb max (new_size spelled total) ≡ b → cond b (Some (TooLong (new_size spelled total) max)) None ≡ None → new_size spelled total ≤ max
    cases true e k = cc
    cases false e k = ltb-false max (new_size spelled total) e

some-is : (m n : ℕ) → Some m ≡ Some n → m ≡ n
some-is m n e = cc

-- the map of a kind is one of those that there are
pub map-number : (count : ℕ) (numbers : List (Option ℕ)) (id number : ℕ) → HasMaps count numbers → map_of numbers id ≡ Some number → IsNumber count number
map-number count [] id number h e = cc
map-number count (None ∷ numbers) zero number h e = cc
map-number count (None ∷ numbers) (suc id) number h e = map-number count numbers id number h e
map-number count (Some n ∷ numbers) zero number h e = subst (IsNumber count) (some-is n number e) h.0
map-number count (Some n ∷ numbers) (suc id) number h e = map-number count numbers id number h.1 e
