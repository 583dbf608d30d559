-- One section further in a walk over the texts of two sets.
use Rattle.std.proofs.Common.{◌≡◌, ℕ, zero, suc, ◌+◌, ◌-◌, ◌≤◌, Bool, true, false, List, [], ◌∷◌, ◌++◌, length, take, drop, refl, ap, ◌∙◌, append_assoc, arith, length-take-le, length-append}
use Rattle.change_desc.specs.declared.section.Section.{Section}
use Rattle.change_desc.specs.declared.section.Section.TheVariants.{Keep, Replace}
use Rattle.change_desc.specs.Sections.{old_of, old_size}
use Rattle.change_set.specs.Texts.{marked, unmarked, texts_between, text_of_section}

marked-unmarked : (m : List Bool) → marked m + unmarked m ≡ length m
marked-unmarked [] = refl
marked-unmarked (true ∷ m) = omega (arith, marked-unmarked m)
marked-unmarked (false ∷ m) = omega (arith, marked-unmarked m)

-- those that are not kept among the next
pub fresh : (n kept : ℕ) (m : List Bool) → n ≤ length m → kept ≡ marked (take n m) → n - kept ≡ unmarked (take n m)
fresh n kept m l h = omega (arith, marked-unmarked (take n m), length-take-le n m l)

pub unmarked-split : (n : ℕ) (m : List Bool) → unmarked m ≡ unmarked (take n m) + unmarked (drop n m)
unmarked-split zero m = omega arith
unmarked-split (suc n) [] = refl
unmarked-split (suc n) (true ∷ m) = unmarked-split n m
unmarked-split (suc n) (false ∷ m) = omega (arith, unmarked-split n m)

module _ {C : Type 0} where
  section-step : (m : List Bool) (f : ℕ) (first : List C) (x : Section (List C)) (s : List (Section (List C))) → f ≡ unmarked (take (old_of x) m) →
      texts_between m first (x ∷ s) ≡ text_of_section f first x ++ texts_between (drop (old_of x) m) (drop f first) s
  section-step m f first (Keep n) s h = rw h refl
  section-step m f first (Replace n t) s h = rw h refl

  pub between-step : (m k : List Bool) (f : ℕ) (text longer first left all : List C) (x : Section (List C)) (s r : List (Section (List C))) → k ≡ drop (old_of x) m →
      f ≡ unmarked (take (old_of x) m) → r ≡ x ∷ s → longer ≡ text ++ text_of_section f first x → left ≡ drop f first →
      text ++ texts_between m first r ≡ all → longer ++ texts_between k left s ≡ all
  between-step m k f text longer first left all x s r e h w l d g =
      rw (l, e, d, append_assoc text (text_of_section f first x) (texts_between (drop (old_of x) m) (drop f first) s), ← (section-step m f first x s h)) (rw w at g)

  -- what is put after fits where all does
  pub part-fits : (m : List Bool) (f : ℕ) (text first all : List C) (x : Section (List C)) (s r : List (Section (List C))) →
      f ≡ unmarked (take (old_of x) m) → r ≡ x ∷ s → text ++ texts_between m first r ≡ all → length text + length (text_of_section f first x) ≤ length all
  part-fits m f text first all x s r h w g =
      let longer : List C = text ++ text_of_section f first x in
      let e : longer ++ texts_between (drop (old_of x) m) (drop f first) s ≡ all = between-step m (drop (old_of x) m) f text longer first (drop f first) all x s r refl h w refl refl g in
      omega (arith, ap length e, length-append longer (texts_between (drop (old_of x) m) (drop f first) s), length-append text (text_of_section f first x))

pub record Advance (m : List Bool) (n f all : ℕ) : Type 0 where
  pub fresh : f ≡ unmarked (take n m)
  pub within : f ≤ all
  pub left : unmarked (drop n m) ≡ all - f

-- after a section of n characters
pub advance : (m : List Bool) (n a kept all : ℕ) → n ≤ length m → a ≡ n → kept ≡ marked (take a m) → unmarked m ≡ all → Advance m n (a - kept) all
advance m n a kept all l e h w =
    let k : kept ≡ marked (take n m) = h ∙ ap (λ j. marked (take j m)) e in
    let g : n - kept ≡ unmarked (take n m) = fresh n kept m l k in
    record { fresh = omega arith; within = omega (arith, unmarked-split n m); left = omega (arith, unmarked-split n m) }

pub section-within : {T : Type 0} (s r rest : List (Section T)) (x : Section T) (m : List Bool) → length m ≡ old_size r → r ≡ x ∷ rest → old_of x ≤ length m
section-within s r rest x m h e = omega (arith, ap old_size e)
