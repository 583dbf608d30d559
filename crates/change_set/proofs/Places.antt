-- Further characters in a walk over the old text of a description.
use Rattle.std.proofs.Common.{◌≡◌, ℕ, zero, suc, ◌+◌, ◌-◌, ◌≤◌, ◌<◌, Bool, true, false, ◌⊎◌, inl, inr, List, [], ◌∷◌, ◌++◌, length, min, get_or, take, drop, replicate, refl, sym, ap, subst, ◌∙◌, arith, length-append, length-drop}
use Rattle.std.proofs.lemmas.List.{drop_all, drop_more}
use Rattle.std.proofs.lemmas.Bool.{cases_lt}
use Rattle.change_desc.specs.declared.section.Section.{Section}
use Rattle.change_desc.specs.declared.section.Section.TheVariants.{Keep, Replace}
use Rattle.change_desc.specs.Sections.{old_of}
use Rattle.change_set.specs.declared.place.Place.{Place}
use Rattle.change_set.specs.Texts.{kept_marks, marked}
use Rattle.change_set.specs.Places.{marks_at, first_len, IsPlace, kept_count}

-- lists of one mark
length-replicate : {A : Type 0} (n : ℕ) (a : A) → length (replicate n a) ≡ n
length-replicate zero a = refl
length-replicate (suc n) a = ap suc (length-replicate n a)

drop-replicate : {A : Type 0} (k n : ℕ) (a : A) (m : List A) → k ≤ n → drop k (replicate n a ++ m) ≡ replicate (n - k) a ++ m
drop-replicate zero n a m h = let e : n - 0 ≡ n = omega arith in rw e refl
drop-replicate (suc k) zero a m h = absurd (omega arith)
drop-replicate (suc k) (suc n) a m h = let e : suc n - suc k ≡ n - k = omega arith in rw e (drop-replicate k n a m (omega arith))

replicate-split : {A : Type 0} (k n : ℕ) (a : A) (m : List A) → k ≤ n → replicate n a ++ m ≡ replicate k a ++ (replicate (n - k) a ++ m)
replicate-split zero n a m h = let e : n - 0 ≡ n = omega arith in rw e refl
replicate-split (suc k) zero a m h = absurd (omega arith)
replicate-split (suc k) (suc n) a m h = let e : suc n - suc k ≡ n - k = omega arith in rw e (ap (λ r. a ∷ r) (replicate-split k n a m (omega arith)))

drop-past : {A : Type 0} (k n : ℕ) (a : A) (m : List A) → k ≤ n → drop n (replicate k a ++ m) ≡ drop (n - k) m
drop-past zero n a m h = let e : n - 0 ≡ n = omega arith in rw e refl
drop-past (suc k) zero a m h = absurd (omega arith)
drop-past (suc k) (suc n) a m h = let e : suc n - suc k ≡ n - k = omega arith in rw e (drop-past k n a m (omega arith))

marked-past : (k n : ℕ) (m : List Bool) → k ≤ n → marked (take n (replicate k true ++ m)) ≡ k + marked (take (n - k) m)
marked-past zero n m h = let e : n - 0 ≡ n = omega arith in rw e (omega arith)
marked-past (suc k) zero m h = absurd (omega arith)
marked-past (suc k) (suc n) m h = let e : suc n - suc k ≡ n - k = omega arith in rw e (omega (arith, marked-past k n m (omega arith)))

unmarked-past : (k n : ℕ) (m : List Bool) → k ≤ n → marked (take n (replicate k false ++ m)) ≡ marked (take (n - k) m)
unmarked-past zero n m h = let e : n - 0 ≡ n = omega arith in rw e refl
unmarked-past (suc k) zero m h = absurd (omega arith)
unmarked-past (suc k) (suc n) m h = let e : suc n - suc k ≡ n - k = omega arith in rw e (unmarked-past k n m (omega arith))

-- whether a section keeps
abbrev keeps : Section ℕ → Bool
keeps (Keep n) = true
keeps (Replace n t) = false

marks-cons : (x : Section ℕ) (s : List (Section ℕ)) → kept_marks (x ∷ s) ≡ replicate (old_of x) (keeps x) ++ kept_marks s
marks-cons (Keep n) s = refl
marks-cons (Replace n t) s = refl

-- what one step takes: some marks, all alike
pub record Passes (s : List (Section ℕ)) (p q : Place) (x : Section ℕ) (k : ℕ) : Type 0 where
  pub takes : marks_at s p ≡ replicate k (keeps x) ++ marks_at s q
  pub is_place : IsPlace s q

passes : (s : List (Section ℕ)) (p q : Place) (x : Section ℕ) (rest : List (Section ℕ)) (k : ℕ) → drop p.index s ≡ x ∷ rest → drop (p.index + 1) s ≡ rest → p.index < length s →
    p.offset ≤ old_of x → p.offset + k ≤ old_of x → (k < old_of x - p.offset → q ≡ record { index = p.index; offset = p.offset + k }) →
    (old_of x - p.offset ≤ k → q ≡ record { index = p.index + 1; offset = 0 }) → (k < old_of x - p.offset) ⊎ (old_of x - p.offset ≤ k) → Passes s p q x k
passes s p q x rest k e f l o h g b (inl c) = record {
  takes =
      let n : old_of x - p.offset - k ≡ old_of x - (p.offset + k) = omega arith in
      rw (g c, e, marks-cons x rest, drop-replicate p.offset (old_of x) (keeps x) (kept_marks rest) o, drop-replicate (p.offset + k) (old_of x) (keeps x) (kept_marks rest) h)
      (replicate-split k (old_of x - p.offset) (keeps x) (kept_marks rest) (omega arith) ∙ ap (λ m. replicate k (keeps x) ++ (replicate m (keeps x) ++ kept_marks rest)) n);
  is_place = rw (g c) (record { index = omega arith; offset = rw e h });
}
passes s p q x rest k e f l o h g b (inr c) = record {
  takes =
      let n : old_of x - p.offset ≡ k = omega arith in
      rw (b c, e, f, marks-cons x rest, drop-replicate p.offset (old_of x) (keeps x) (kept_marks rest) o, n) refl;
  is_place = rw (b c) (record { index = omega arith; offset = omega arith });
}

kept_count-takes : (x : Section ℕ) (k n : ℕ) (m : List Bool) → k ≤ n → marked (take n (replicate k (keeps x) ++ m)) ≡ kept_count k x + marked (take (n - k) m)
kept_count-takes (Keep j) k n m h = marked-past k n m h
kept_count-takes (Replace j t) k n m h = unmarked-past k n m h ∙ omega arith

-- there is a section where characters are left
pub more_left : (s : List (Section ℕ)) (p : Place) (n : ℕ) → 0 < n → n ≤ length (marks_at s p) → p.index < length s
more_left s p n h l = cases (cases_lt p.index (length s))
  where
    cases : (p.index < length s) ⊎ (length s ≤ p.index) → p.index < length s
    cases (inl c) = c
    cases (inr c) = absurd (omega (arith, ap length (ap (λ r. drop p.offset (kept_marks r)) (drop_all p.index s c)), length-drop p.offset (kept_marks {T = ℕ} [])))

pub record StepOn (s : List (Section ℕ)) (p q : Place) (rest k stretch : ℕ) : Type 0 where
  pub is_place : IsPlace s q
  pub within : rest - k ≤ length (marks_at s q)
  pub left : drop (rest - k) (marks_at s q) ≡ drop rest (marks_at s p)
  pub kept : stretch + marked (take (rest - k) (marks_at s q)) ≡ marked (take rest (marks_at s p))
  pub few : stretch ≤ k

kept_count-few : (x : Section ℕ) (k : ℕ) → kept_count k x ≤ k
kept_count-few (Keep n) k = omega arith
kept_count-few (Replace n t) k = omega arith

pub step_on : (s : List (Section ℕ)) (p q : Place) (rest k stretch old : ℕ) → 0 < rest → IsPlace s p → rest ≤ length (marks_at s p) →
    old ≡ old_of (get_or s p.index (Keep 0)) → k ≡ min (old - p.offset) rest → stretch ≡ kept_count k (get_or s p.index (Keep 0)) →
    (k < old - p.offset → q ≡ record { index = p.index; offset = p.offset + k }) → (old - p.offset ≤ k → q ≡ record { index = p.index + 1; offset = 0 }) → StepOn s p q rest k stretch
step_on s p q rest k stretch old a i w o m t g b =
    let x : Section ℕ = get_or s p.index (Keep 0) in
    let n : p.index < length s = more_left s p rest a w in
    let e : drop p.index s ≡ x ∷ drop (p.index + 1) s = drop_more s p.index (Keep 0) n in
    let f : p.offset ≤ old_of x = subst (λ r. p.offset ≤ first_len r) e i.offset in
    let h : Passes s p q x k = passes s p q x (drop (p.index + 1) s) k e refl n f (omega arith)
    (λ c. g (omega arith)) (λ c. b (omega arith)) (cases_lt k (old_of x - p.offset)) in
    let l : k ≤ rest = omega arith in
    record {
      is_place = h.is_place;
      within = omega (arith, ap length h.takes, length-append (replicate k (keeps x)) (marks_at s q), length-replicate k (keeps x));
      left = sym (drop-past k rest (keeps x) (marks_at s q) l) ∙ ap (drop rest) (sym h.takes);
      kept = ap (λ r. r + marked (take (rest - k) (marks_at s q))) t ∙ (sym (kept_count-takes x k rest (marks_at s q) l) ∙ ap (λ r. marked (take rest r)) (sym h.takes));
      few = rw t (kept_count-few x k);
    }
