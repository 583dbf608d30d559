-- How long the halves of a filtered set are, section by section.
use Rattle.std.proofs.Common.{◌≡◌, ℕ, ◌+◌, ◌-◌, ◌≤◌, ◌<◌, ◌^◌, Bool, true, false, cond, List, [], ◌∷◌, length, drop, refl, sym, ap, subst, ◌∙◌, arith}
use Rattle.std.proofs.lemmas.List.{drop_all}
use Rattle.change_desc.specs.declared.section.Section.{Section}
use Rattle.change_desc.specs.declared.section.Section.TheVariants.{Keep, Replace}
use Rattle.change_desc.specs.Sections.{Sections, spelled, normal, new_of, new_size, old_of, IsSet}
use Rattle.change_desc.specs.Columns.{follows, times, along_old}
use Rattle.change_desc.specs.Pieces.{single, closed, gather}
use Rattle.change_desc.specs.Filter.{is_protected, is_inside}
use Rattle.change_desc.proofs.Normal.{spelled_laws}
use Rattle.change_desc.proofs.Weaves.{new_size-normal}
use Rattle.change_set.specs.declared.half.Half.{Half}
use Rattle.change_set.specs.Protected.{IsRun}
use Rattle.change_set.specs.Protection.{given_len, half_from, pieced, run_section, takes, taking}
use Rattle.change_set.proofs.FilterBounds.{half-new}
use Rattle.change_set.proofs.FilterWalk.{run_on, run_begin, keep_on, insert_on, insert_none}

sized : (f : Sections) (x : Section (List ℕ)) (g : Sections) → normal spelled f ≡ normal spelled (x ∷ g) → new_of spelled x + new_size spelled g ≡ new_size spelled f
sized f x g e = sym (new_size-normal spelled spelled_laws (x ∷ g)) ∙ (ap (new_size spelled) (sym e) ∙ new_size-normal spelled spelled_laws f)

run-size : (b : Bool) (n : ℕ) (t : List ℕ) → new_of spelled (run_section b n t) ≡ given_len b n (length t)
run-size true n t = refl
run-size false n t = refl

pub given-few : (b : Bool) (n m : ℕ) → given_len b n m ≤ n + m
given-few true n m = omega arith
given-few false n m = omega arith

no_gap : (b : Bool) → new_size (spelled {C = ℕ}) (closed spelled (gather spelled (cond b (single (Replace 0 []) ∷ []) []))) ≡ 0
no_gap true = refl
no_gap false = refl

module _ (half : Half) (rs : List (ℕ × ℕ)) (len : ℕ) where
  pub len_on : (from to end : ℕ) (s : Sections) (b : Bool) → IsRun rs len from to end → b ≡ takes half (is_protected rs len from) →
      given_len b (to - from) 0 + new_size spelled (pieced (taking half rs len) to (times spelled (end - to) follows (along_old spelled s))) ≡
      new_size spelled (pieced (taking half rs len) from (times spelled (end - from) follows (along_old spelled s)))
  len_on from to end s b r e =
      ap (λ n. n + new_size spelled (pieced (taking half rs len) to (times spelled (end - to) follows (along_old spelled s)))) (sym (run-size b (to - from) [])) ∙
      sized (pieced (taking half rs len) from (times spelled (end - from) follows (along_old spelled s))) (run_section b (to - from) [])
      (pieced (taking half rs len) to (times spelled (end - to) follows (along_old spelled s))) (run_on half rs len from to end s b [] r e refl)

  pub len_begin : (at to count : ℕ) (t : List ℕ) (s : Sections) (b : Bool) → IsRun rs len at to (at + count) → 0 < count → b ≡ takes half (is_protected rs len at) →
      given_len b (to - at) (length t) + new_size spelled (pieced (taking half rs len) to (times spelled (at + count - to) follows (along_old spelled s))) ≡
      new_size spelled (pieced (taking half rs len) at (along_old spelled (Replace count t ∷ s)))
  len_begin at to count t s b r z e =
      ap (λ n. n + new_size spelled (pieced (taking half rs len) to (times spelled (at + count - to) follows (along_old spelled s)))) (sym (run-size b (to - at) t)) ∙
      sized (pieced (taking half rs len) at (along_old spelled (Replace count t ∷ s))) (run_section b (to - at) t)
      (pieced (taking half rs len) to (times spelled (at + count - to) follows (along_old spelled s))) (run_begin half rs len at to count t s b t r z e refl)

  pub len_keep : (at n : ℕ) (s : Sections) → n + new_size spelled (pieced (taking half rs len) (at + n) (along_old spelled s)) ≡ new_size spelled (pieced (taking half rs len) at (along_old spelled (Keep n ∷ s)))
  len_keep at n s = sized (pieced (taking half rs len) at (along_old spelled (Keep n ∷ s))) (Keep n) (pieced (taking half rs len) (at + n) (along_old spelled s)) (keep_on half rs len at n s)

  pub len_insert : (at : ℕ) (t : List ℕ) (s : Sections) → takes half (is_inside rs len at) ≡ true →
      length t + new_size spelled (pieced (taking half rs len) (at + 0) (along_old spelled s)) ≡ new_size spelled (pieced (taking half rs len) at (along_old spelled (Replace 0 t ∷ s)))
  len_insert at t s h = sized (pieced (taking half rs len) at (along_old spelled (Replace 0 t ∷ s))) (Replace 0 t) (pieced (taking half rs len) (at + 0) (along_old spelled s)) (insert_on half rs len at t t s h refl)

  pub len_none : (at : ℕ) (t : List ℕ) (s : Sections) → takes half (is_inside rs len at) ≡ false →
      0 + new_size spelled (pieced (taking half rs len) (at + 0) (along_old spelled s)) ≡ new_size spelled (pieced (taking half rs len) at (along_old spelled (Replace 0 t ∷ s)))
  len_none at t s h =
      let e : normal spelled (pieced (taking half rs len) (at + 0) (along_old spelled s)) ≡ normal spelled (pieced (taking half rs len) at (along_old spelled (Replace 0 t ∷ s))) = insert_none half rs len at t s [] h in
      omega (
        arith,
        ap (new_size spelled) e,
        new_size-normal spelled spelled_laws (pieced (taking half rs len) (at + 0) (along_old spelled s)),
        new_size-normal spelled spelled_laws (pieced (taking half rs len) at (along_old spelled (Replace 0 t ∷ s))),
      )

  pub len_end : (p : ℕ) → new_size spelled (pieced (taking half rs len) p (along_old spelled [])) ≡ 0
  len_end p = no_gap (takes half (is_inside rs len p))

  pub len_total : (s : Sections) → new_size spelled (half_from (taking half rs len) [] 0 s) ≡ new_size spelled (pieced (taking half rs len) 0 (along_old spelled s))
  len_total s = new_size-normal spelled spelled_laws (pieced (taking half rs len) 0 (along_old spelled s))

-- a section under its form
pub over : (half : Half) (rs : List (ℕ × ℕ)) (len at : ℕ) (x y : Section (List ℕ)) (n : ℕ) → x ≡ y →
    ((s : Sections) → n + new_size spelled (pieced (taking half rs len) (at + old_of y) (along_old spelled s)) ≡ new_size spelled (pieced (taking half rs len) at (along_old spelled (y ∷ s)))) →
    (s : Sections) → n + new_size spelled (pieced (taking half rs len) (at + old_of x) (along_old spelled s)) ≡ new_size spelled (pieced (taking half rs len) at (along_old spelled (x ∷ s)))
over half rs len at x y n e h s =
    let P : Section (List ℕ) → Type 0 = λ z. n + new_size spelled (pieced (taking half rs len) (at + old_of z) (along_old spelled s)) ≡ new_size spelled (pieced (taking half rs len) at (along_old spelled (z ∷ s))) in
    subst P (sym e) (h s)

-- the whole of a half
pub len_whole : (half : Half) (rs : List (ℕ × ℕ)) (len : ℕ) (s : Sections) (i at sum : ℕ) → length s ≤ i →
    sum + new_size spelled (pieced (taking half rs len) at (along_old spelled (drop i s))) ≡ new_size spelled (pieced (taking half rs len) 0 (along_old spelled s)) →
    sum ≡ new_size spelled (half_from (taking half rs len) [] 0 s)
len_whole half rs len s i at sum l h =
    let d : drop i s ≡ [] = drop_all i s l in
    let e : new_size spelled (pieced (taking half rs len) at (along_old spelled (drop i s))) ≡ 0 = ap (λ r. new_size spelled (pieced (taking half rs len) at (along_old spelled r))) d ∙ len_end half rs len at in
    omega (arith, e, h, len_total half rs len s)

-- what is counted fits 64 bits
pub len_fits : (half : Half) (rs : List (ℕ × ℕ)) (len : ℕ) (s r : Sections) (x : Section (List ℕ)) (i at sum n : ℕ) → IsSet spelled s → drop i s ≡ x ∷ r →
    sum + new_size spelled (pieced (taking half rs len) at (along_old spelled (drop i s))) ≡ new_size spelled (pieced (taking half rs len) 0 (along_old spelled s)) →
    ((q : Sections) → n + new_size spelled (pieced (taking half rs len) (at + old_of x) (along_old spelled q)) ≡ new_size spelled (pieced (taking half rs len) at (along_old spelled (x ∷ q)))) →
    sum + n < 2 ^ 64
len_fits half rs len s r x i at sum n h e g k =
    let w : new_size spelled (pieced (taking half rs len) at (along_old spelled (drop i s))) ≡ new_size spelled (pieced (taking half rs len) at (along_old spelled (x ∷ r))) =
    ap (λ q. new_size spelled (pieced (taking half rs len) at (along_old spelled q))) e in
    omega (arith, g, k r, w, len_total half rs len s, half-new half rs len s, h.old_fits, h.new_fits)
