-- Running totals of a list of changes.
use Rattle.std.proofs.Common.{◌≡◌, ℕ, zero, suc, ◌+◌, ◌-◌, ◌≤◌, Bool, false, List, [], ◌∷◌, length, refl, sym, ap, subst, ◌∙◌, arith, add-zero, zero-add}
use Rattle.change_desc.specs.declared.section.Section.{Section}
use Rattle.change_desc.specs.declared.section.Section.TheVariants.{Keep, Replace}
use Rattle.change_desc.specs.Sections.{Sections, spelled, counted, normal, lengths, old_size, new_size}
use Rattle.change_desc.specs.Columns.{width, Row, last, next, Fate, stays, leaves, follows, in_front, times, along_old}
use Rattle.change_desc.specs.Compose.{compose}
use Rattle.change_desc.specs.Map.{map_over}
use Rattle.change_desc.specs.Of.{span, then_also}
use Rattle.change_desc.specs.MapSteps.{merged_len}
use Rattle.change_desc.proofs.Applies.{width-along_old}
use Rattle.change_desc.proofs.Merges.{old_size-lengths, new_size-lengths, old_size-map_over, old_size-normal}
use Rattle.change_desc.proofs.MapLengths.{column_new, ends_new}
use Rattle.change_desc.proofs.Measures.{new_size-map_over, merged_len-sets}
use Rattle.change_desc.proofs.Lengths.{spelled_sizes, normal-lengths, map_over-lengths}
use Rattle.change_set.proofs.Sizes.{old_size-compose, new_size-compose}

-- where the mapped set starts
moved-old : (total set : Sections) → old_size set ≡ old_size total → old_size (map_over spelled set (lengths spelled total) false) ≡ new_size spelled total
moved-old total set h =
    old_size-map_over spelled set (lengths spelled total) false (old_size-lengths spelled total ∙ sym h) ∙ new_size-lengths spelled total

-- the length that the next total leads to
pub also-size : (total set : Sections) (d f : List (Section ℕ)) → d ≡ lengths spelled total → f ≡ lengths spelled set → old_size set ≡ old_size total →
    new_size counted (map_over counted f d false) ≡ new_size spelled (then_also spelled total set)
also-size total set d f e g h =
    let m : Sections = map_over spelled set (lengths spelled total) false in
    sym (new_size-compose total m (sym (moved-old total set h)) ∙
    (sym (new_size-lengths spelled m) ∙ ap (new_size counted) (map_over-lengths spelled spelled_sizes set (lengths spelled total) false ∙ rw (e, g) refl)))

pub also-old : (total set : Sections) → old_size set ≡ old_size total → old_size (then_also spelled total set) ≡ old_size total
also-old total set h = old_size-compose total (map_over spelled set (lengths spelled total) false) (sym (moved-old total set h))

pub also-meets : (total set : Sections) (d : List (Section ℕ)) → d ≡ lengths spelled total → old_size set ≡ old_size total →
    new_size spelled total ≡ old_size (map_over spelled set d false)
also-meets total set d e h = rw e (sym (moved-old total set h))

pub also-moved : (total set : Sections) (d : List (Section ℕ)) → d ≡ lengths spelled total → old_size set ≡ old_size total →
    new_size spelled (map_over spelled set d false) ≡ new_size spelled (then_also spelled total set)
also-moved total set d e h = rw e (sym (new_size-compose total (map_over spelled set (lengths spelled total) false) (sym (moved-old total set h))))

pub also-is : (total set : Sections) (d : List (Section ℕ)) → d ≡ lengths spelled total → compose spelled total (map_over spelled set d false) ≡ then_also spelled total set
also-is total set d e = rw e refl

-- a row, and the same with so many characters more in one text
data More (t : ℕ) : Row ℕ (Fate ℕ) → Row ℕ (Fate ℕ) → Type 0 where
  at_end : (j : ℕ) → More t (last j) (last (t + j))
  at_gap : (j : ℕ) (y : Fate ℕ) (s : Row ℕ (Fate ℕ)) → More t (next j y s) (next (t + j) y s)
  at_text : (j u : ℕ) (s : Row ℕ (Fate ℕ)) → More t (next j (leaves u) s) (next j (leaves (t + u)) s)
  later : (j : ℕ) (y : Fate ℕ) (s r : Row ℕ (Fate ℕ)) → More t s r → More t (next j y s) (next j y r)

merged-more : (t : ℕ) (r s q : Row ℕ (Fate ℕ)) → More t s q → width r ≡ width s → merged_len r q ≡ t + merged_len r s
merged-more t (last i) s q (at_end j) w = omega (arith, ends_new false i (t + j), ends_new false i j)
merged-more t (next i x r) s q (at_end j) w = absurd (omega arith)
merged-more t (last i) s q (at_gap j y u) w = absurd (omega arith)
merged-more t (next i x r) s q (at_gap j y u) w = omega (arith, column_new false i x r (t + j) y u, column_new false i x r j y u)
merged-more t (last i) s q (at_text j u v) w = absurd (omega arith)
merged-more t (next i stays r) s q (at_text j u v) w = omega (arith, column_new false i stays r j (leaves (t + u)) v, column_new false i stays r j (leaves u) v)
merged-more t (next i (leaves k) r) s q (at_text j u v) w = omega (arith, column_new false i (leaves k) r j (leaves (t + u)) v, column_new false i (leaves k) r j (leaves u) v)
merged-more t (next i follows r) s q (at_text j u v) w = omega (arith, column_new false i follows r j (leaves (t + u)) v, column_new false i follows r j (leaves u) v)
merged-more t (last i) s q (later j y u v m) w = absurd (omega arith)
merged-more t (next i x r) s q (later j y u v m) w =
    omega (arith, column_new false i x r j y u, column_new false i x r j y v, merged-more t r u v m (omega arith))

more-times : (t n : ℕ) (s q : Row ℕ (Fate ℕ)) → More t s q → More t (times counted n stays s) (times counted n stays q)
more-times t zero s q m = m
more-times t (suc n) s q m = later 0 stays (times counted n stays s) (times counted n stays q) (more-times t n s q m)

more-prefix : (t : ℕ) (s : Row ℕ (Fate ℕ)) → More t (in_front counted 0 s) (in_front counted t s)
more-prefix t (last j) = subst (λ k. More t (last k) (last (t + j))) (sym (zero-add j)) (at_end j)
more-prefix t (next j y s) = subst (λ k. More t (next k y s) (next (t + j) y s)) (sym (zero-add j)) (at_gap j y s)

abbrev parts : (from gone rest t : ℕ) → List (Section ℕ)
parts from gone rest t = Keep from ∷ Replace gone t ∷ Keep rest ∷ []

more-parts : (from gone rest t : ℕ) → More t (along_old counted (parts from gone rest 0)) (along_old counted (parts from gone rest t))
more-parts from zero rest t = more-times t from (in_front counted 0 (along_old counted (Keep rest ∷ []))) (in_front counted t (along_old counted (Keep rest ∷ []))) (more-prefix t (along_old counted (Keep rest ∷ [])))
more-parts from (suc n) rest t =
    let s : Row ℕ (Fate ℕ) = times counted n follows (along_old counted (Keep rest ∷ [])) in
    more-times t from (next 0 (leaves 0) s) (next 0 (leaves t) s) (subst (λ k. More t (next 0 (leaves 0) s) (next 0 (leaves k) s)) (add-zero t) (at_text 0 0 s))

-- the normal form of a span has the same row
times-add : (m n : ℕ) (s : Row ℕ (Fate ℕ)) → times counted (m + n) stays s ≡ times counted m stays (times counted n stays s)
times-add zero n s = let e : 0 + n ≡ n = omega arith in rw e refl
times-add (suc m) n s = let e : suc m + n ≡ suc (m + n) = omega arith in rw e (ap (next 0 stays) (times-add m n s))

prefix-none : (s : Row ℕ (Fate ℕ)) → in_front counted 0 s ≡ s
prefix-none (last j) = ap last (zero-add j)
prefix-none (next j y s) = ap (λ k. next k y s) (zero-add j)

span-row : (from gone rest t : ℕ) → along_old counted (normal counted (parts from gone rest t)) ≡ along_old counted (parts from gone rest t)
span-row zero zero zero zero = refl
span-row zero zero (suc r) zero = refl
span-row (suc f) zero zero zero = ap (λ s. times counted (suc f) stays s) (sym (prefix-none (last 0)))
span-row (suc f) zero (suc r) zero =
    times-add (suc f) (suc r) (last 0) ∙ ap (λ s. times counted (suc f) stays s) (sym (prefix-none (times counted (suc r) stays (last 0))))
span-row zero zero zero (suc t) = refl
span-row zero zero (suc r) (suc t) = refl
span-row (suc f) zero zero (suc t) = refl
span-row (suc f) zero (suc r) (suc t) = refl
span-row zero (suc g) zero zero = refl
span-row zero (suc g) (suc r) zero = refl
span-row (suc f) (suc g) zero zero = refl
span-row (suc f) (suc g) (suc r) zero = refl
span-row zero (suc g) zero (suc t) = refl
span-row zero (suc g) (suc r) (suc t) = refl
span-row (suc f) (suc g) zero (suc t) = refl
span-row (suc f) (suc g) (suc r) (suc t) = refl

-- how long the mapped set of a span is, by that of its deletion
pub span-grows : (len from to t : ℕ) (d : List (Section ℕ)) → old_size d ≡ old_size (span counted len from to 0) →
    new_size counted (map_over counted (span counted len from to t) d false) ≡ t + new_size counted (map_over counted (span counted len from to 0) d false)
span-grows len from to t d h =
    let gone : ℕ = to - from in
    let rest : ℕ = len - to in
    let r : Row ℕ (Fate ℕ) = along_old counted d in
    let w : width r ≡ width (along_old counted (parts from gone rest 0)) =
    width-along_old counted d ∙ (h ∙ (sym (width-along_old counted (normal counted (parts from gone rest 0))) ∙ ap width (span-row from gone rest 0))) in
    new_size-map_over (span counted len from to t) d false ∙
    (ap (merged_len r) (span-row from gone rest t) ∙
    (merged-more t r (along_old counted (parts from gone rest 0)) (along_old counted (parts from gone rest t)) (more-parts from gone rest t) w ∙
    ap (λ n. t + n) (ap (merged_len r) (sym (span-row from gone rest 0)) ∙ sym (new_size-map_over (span counted len from to 0) d false))))

pub span-old : (len from to t : ℕ) → from ≤ to → to ≤ len → old_size (span counted len from to t) ≡ len
span-old len from to t a b = old_size-normal counted (Keep from ∷ Replace (to - from) t ∷ Keep (len - to) ∷ []) ∙ omega arith

pub span-lengths : (len from to : ℕ) (t : List ℕ) → lengths spelled (span spelled len from to t) ≡ span counted len from to (length t)
span-lengths len from to t = normal-lengths spelled spelled_sizes (Keep from ∷ Replace (to - from) t ∷ Keep (len - to) ∷ [])

pub spelled-old : (len from to : ℕ) (t : List ℕ) → from ≤ to → to ≤ len → old_size (span spelled len from to t) ≡ len
spelled-old len from to t a b = old_size-normal spelled (Keep from ∷ Replace (to - from) t ∷ Keep (len - to) ∷ []) ∙ omega arith

pub span-size : (total : Sections) (from to : ℕ) (t : List ℕ) (d f : List (Section ℕ)) (n m : ℕ) → from ≤ to → to ≤ old_size total → d ≡ lengths spelled total →
    f ≡ span counted (old_size total) from to 0 → n ≡ length t → m ≡ new_size counted (map_over counted f d false) →
    n + m ≡ new_size spelled (then_also spelled total (span spelled (old_size total) from to t))
span-size total from to t d f n m a b e g h k =
    let len : ℕ = old_size total in
    let o : old_size d ≡ old_size (span counted len from to 0) = ap old_size e ∙ (old_size-lengths spelled total ∙ sym (span-old len from to 0 a b)) in
    rw (h, k, g)
    (sym (span-grows len from to (length t) d o) ∙
    also-size total (span spelled len from to t) d (span counted len from to (length t)) e (sym (span-lengths len from to t)) (spelled-old len from to t a b))

-- the length of a mapped set fits where both sets do
pub moved-bound : (f d : List (Section ℕ)) (m : ℕ) → m ≡ new_size counted (map_over counted f d false) → m ≤ new_size counted d + new_size counted f
moved-bound f d m h = omega (arith, new_size-map_over f d false, merged_len-sets d f)

-- a mapped set leads to a text that is no longer than both new texts together
pub mapped-bound : (b : Sections) (a : List (Section ℕ)) (before : Bool) → new_size spelled (map_over spelled b a before) ≤ new_size counted a + new_size spelled b
mapped-bound b a before =
    omega (
      arith,
      new_size-lengths spelled (map_over spelled b a before),
      ap (new_size counted) (map_over-lengths spelled spelled_sizes b a before),
      new_size-map_over (lengths spelled b) a before,
      merged_len-sets a (lengths spelled b),
      new_size-lengths spelled b,
    )
