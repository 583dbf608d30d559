-- What a load and a save make of a list of files.
use Rattle.std.proofs.Common.{◌≡◌, ◌≢◌, ℕ, suc, zero, ◌<◌, ◌≤◌, Bool, true, false, nat_eq, cond, not, List, [], ◌∷◌, ◌++◌, Option, Some, None, length, set, get_or, slice_get, refl, sym, ap, subst, ◌∙◌, arith}
use Rattle.std.specs.Cmp.Lexicographic.{pointwise, told_text, same_text}
use Rattle.std.specs.List.{find, position_or_len}
use Rattle.std.specs.Option.{option_map, option_or}
use Rattle.std.proofs.lemmas.List.Folds.{find_at, find-append, find-set}
use Rattle.std.proofs.lemmas.List.Sums.{passes_at_first, prefix_len-le-length}
use Rattle.std.proofs.lemmas.Option.{slice_get_past, slice_get-get_or}
use Rattle.std.proofs.lemmas.Cmp.{nat_list_eq_equiv}
use Rattle.cm_outside.specs.Files.{IsSaved}
use Rattle.cm_outside.specs.MemFiles.{FileView, files_of, is_named}

-- a file of one name is not of another
named_other : (a b : List ℕ) → a ≢ b → pointwise nat_eq a b ≡ false
named_other a b other = at (pointwise nat_eq a b) refl where
  at : (r : Bool) → r ≡ pointwise nat_eq a b → r ≡ false
  at true e = absurd (other (told_text a b true e))
  at false e = refl

pub has_name : (f : FileView) (name : List ℕ) → f.name ≡ name → is_named name f ≡ true
has_name f name same = ap (λ n. pointwise nat_eq n name) same ∙ nat_list_eq_equiv.refl name

pub has_other_name : (f : FileView) (name : List ℕ) → f.name ≢ name → is_named name f ≡ false
has_other_name f name other = named_other f.name name other

-- neither the element replaced nor the new one is looked for
find_other : {X : Type 0} (q : X → Bool) (xs : List X) (i : ℕ) (y d : X) → q y ≡ false → q (get_or xs i d) ≡ false → find q (set xs i y) ≡ find q xs
find_other q [] i y d a b = refl
find_other q (x ∷ xs) zero y d a b = ap (λ c. cond c (Some y) (find q xs)) a ∙ sym (ap (λ c. cond c (Some x) (find q xs)) b)
find_other q (x ∷ xs) (suc i) y d a b = ap (λ r. cond (q x) (Some x) r) (find_other q xs i y d a b)

or_none : {X : Type 0} (o : Option X) → option_or o None ≡ o
or_none None = refl
or_none (Some x) = refl

abbrev bytes_at : Option FileView → Option (List ℕ)
bytes_at found = option_map (λ (f : FileView). f.bytes) found

saved_pushed : (xs : List FileView) (name bytes : List ℕ) → position_or_len (is_named name) xs ≡ length xs → IsSaved name bytes (files_of xs) (files_of (xs ++ record { name = name; bytes = bytes } ∷ []))
saved_pushed xs name bytes e = record { file = file; others = others } where
  new : FileView
  new = record { name = name; bytes = bytes }

  none : find (is_named name) xs ≡ None
  none = find_at (is_named name) xs ∙ ap (slice_get xs) e ∙ slice_get_past xs (length xs) (omega arith)

  file : files_of (xs ++ new ∷ []) name ≡ Some bytes
  file = ap bytes_at (find-append (is_named name) xs (new ∷ []) ∙ ap (λ o. option_or o (find (is_named name) (new ∷ []))) none ∙ ap (λ b. cond b (Some new) None) (nat_list_eq_equiv.refl name))

  others : (other : List ℕ) → other ≢ name → files_of (xs ++ new ∷ []) other ≡ files_of xs other
  others other differs = ap bytes_at (find-append (is_named other) xs (new ∷ []) ∙ ap (λ b. option_or (find (is_named other) xs) (cond b (Some new) None)) (named_other name other (λ s. differs (sym s))) ∙ or_none (find (is_named other) xs))

-- a file after the others, where none has the name
pub saved_after : (xs ys : List FileView) (name bytes : List ℕ) (at : ℕ) → at ≡ position_or_len (is_named name) xs → length xs ≤ at → ys ≡ xs ++ record { name = name; bytes = bytes } ∷ [] → IsSaved name bytes (files_of xs) (files_of ys)
saved_after xs ys name bytes at e past is =
    let all : position_or_len (is_named name) xs ≡ length xs = omega (arith, e, past, prefix_len-le-length (λ f. not (is_named name f)) xs) in
    subst (λ zs. IsSaved name bytes (files_of xs) (files_of zs)) (sym is) (saved_pushed xs name bytes all)

-- a file in place of the one of its name
pub saved_set : (xs : List FileView) (name bytes given : List ℕ) (at : ℕ) (old : FileView) → at ≡ position_or_len (is_named name) xs → at < length xs → get_or xs at old ≡ old → given ≡ bytes → IsSaved name bytes (files_of xs) (files_of (set xs at (record { name = old.name; bytes = given })))
saved_set xs name bytes given at old e inside here are = record { file = file; others = others } where
  new : FileView
  new = record { name = old.name; bytes = given }

  named : is_named name old ≡ true
  named = subst (λ x. is_named name x ≡ true) here (subst (λ i. is_named name (get_or xs i old) ≡ true) (sym e) (passes_at_first (is_named name) xs old (subst (λ i. i < length xs) e inside)))

  same : old.name ≡ name
  same = same_text old.name name (sym named)

  file : files_of (set xs at new) name ≡ Some bytes
  file = ap bytes_at (find-set (is_named name) xs at new e inside named) ∙ ap Some are

  others : (other : List ℕ) → other ≢ name → files_of (set xs at new) other ≡ files_of xs other
  others other differs =
      let no : is_named other old ≡ false = named_other old.name other (λ s. differs (sym s ∙ same)) in
      ap bytes_at (find_other (is_named other) xs at new old no (ap (is_named other) here ∙ no))

-- no file of a name
pub found_none : (xs : List FileView) (name : List ℕ) (at : ℕ) → at ≡ position_or_len (is_named name) xs → length xs ≤ at → None ≡ files_of xs name
found_none xs name at e past = ap bytes_at (sym (find_at (is_named name) xs ∙ ap (slice_get xs) (sym e) ∙ slice_get_past xs at past))

-- the bytes found at the place of a name
pub found_at : (xs : List FileView) (name : List ℕ) (at : ℕ) (file : FileView) → at ≡ position_or_len (is_named name) xs → at < length xs → get_or xs at file ≡ file → Some file.bytes ≡ files_of xs name
found_at xs name at file e inside here = ap bytes_at (sym (find_at (is_named name) xs ∙ ap (slice_get xs) (sym e) ∙ slice_get-get_or xs at file inside ∙ ap Some here))
