-- Replaced ranges in order, and which of them can meet a range.
use Rattle.std.proofs.Common.{◌≡◌, ℕ, ◌+◌, ◌<◌, ◌≤◌, Bool, true, false, ◌&&◌, ◌||◌, leb, List, [], ◌∷◌, Some, refl, sym, ap, ◌∙◌, arith}
use Rattle.std.proofs.lemmas.Bool.Decides.{nat_tests}
use Rattle.std.specs.Prelude.{slice_get}
use Rattle.std.specs.List.{list_any}
use Rattle.change_desc.specs.declared.section.Section.{Section}
use Rattle.change_desc.specs.declared.section.Section.TheVariants.{Keep, Replace}
use Rattle.change_desc.specs.declared.changed_range.ChangedRange.{ChangedRange}
use Rattle.change_desc.specs.Ranges.{meets, replaced, replaced_from}
use Rattle.change_desc.specs.Meeting.{BeginAfter, EndsAtOrAfter, some_meet}

pub begin_less : (m n : ℕ) (cs : List ChangedRange) → m ≤ n → BeginAfter n cs → BeginAfter m cs
begin_less m n [] l h = tt
begin_less m n (c ∷ cs) l h = (omega (arith, h.0), h.1)

-- what ends before a place isn't met from there on
not_met : (f t a b place : ℕ) → t < place → place ≤ a → (leb f b && leb a t) ≡ false
not_met f t a b place l m = grind (arith, nat_tests)

pub skip_one : (place a b : ℕ) (c : ChangedRange) (cs : List ChangedRange) → c.to_a < place → place ≤ a → list_any (meets a b) cs ≡ list_any (meets a b) (c ∷ cs)
skip_one place a b c cs l m = rw (not_met c.from_a c.to_a a b place l m) refl

past : (f t a b : ℕ) → b < f → (leb f b && leb a t) ≡ false
past f t a b l = grind (arith, nat_tests)

none_past : (a b n : ℕ) (cs : List ChangedRange) → b < n → BeginAfter n cs → list_any (meets a b) cs ≡ false
none_past a b n [] l h = refl
none_past a b n (c ∷ cs) l h = rw (past c.from_a c.to_a a b (omega (arith, h.0))) (none_past a b c.from_a cs (omega (arith, h.0)) h.1)

first_hull : (a b : ℕ) (c : ChangedRange) (cs : List ChangedRange) → BeginAfter c.from_a cs → a ≤ c.to_a → leb c.from_a b ≡ list_any (meets a b) (c ∷ cs)
first_hull a b c cs h l = at (leb c.from_a b) refl
  where
    reaches : leb a c.to_a ≡ true
    reaches = grind (arith, nat_tests)

    beyond : leb c.from_a b ≡ false → b < c.from_a
    beyond e = grind (arith, nat_tests)

    at : (x : Bool) → leb c.from_a b ≡ x → x ≡ ((x && leb a c.to_a) || list_any (meets a b) cs)
    at true e = rw reaches refl
    at false e = sym (none_past a b c.from_a cs (beyond e) h)

pub first_meets : (a b : ℕ) (c : ChangedRange) (cs : List ChangedRange) → Some c ≡ slice_get cs 0 → BeginAfter 0 cs → EndsAtOrAfter a cs → leb c.from_a b ≡ list_any (meets a b) cs
first_meets a b c [] e h k = cc
first_meets a b c (d ∷ cs) e h k =
    let same : c ≡ d = cc in
    ap (λ (x : ChangedRange). leb x.from_a b) same ∙ first_hull a b d cs h.1 k

pub replaced-begin : (a b : ℕ) (s : List (Section ℕ)) → BeginAfter a (replaced_from a b s)
replaced-begin a b [] = tt
replaced-begin a b (Keep n ∷ s) = begin_less a (a + n) (replaced_from (a + n) (b + n) s) (omega arith) (replaced-begin (a + n) (b + n) s)
replaced-begin a b (Replace n t ∷ s) = (omega arith, begin_less a (a + n) (replaced_from (a + n) (b + t) s) (omega arith) (replaced-begin (a + n) (b + t) s))

-- ranges from a place on meet some of the rest exactly where they meet some of all
pub same-from : (n : ℕ) (qs rest rs : List ChangedRange) → BeginAfter n qs → ((a b : ℕ) → n ≤ a → list_any (meets a b) rest ≡ list_any (meets a b) rs) →
    some_meet qs rest ≡ some_meet qs rs
same-from n [] rest rs h f = refl
same-from n (q ∷ qs) rest rs h f =
    rw (f q.from_a q.to_a h.0) (ap (λ x. list_any (meets q.from_a q.to_a) rs || x) (same-from q.from_a qs rest rs h.1 (λ a b l. f a b (omega (arith, h.0, l)))))

-- a range that meets none of the rest is passed
pub pass_one : (q : ChangedRange) (qs rest rs : List ChangedRange) → BeginAfter 0 (q ∷ qs) → ((a b : ℕ) → q.from_a ≤ a → list_any (meets a b) rest ≡ list_any (meets a b) rs) →
    list_any (meets q.from_a q.to_a) rest ≡ false → some_meet qs rest ≡ some_meet (q ∷ qs) rs
pass_one q qs rest rs h f e = ap (λ x. x || some_meet qs rest) (sym e) ∙ same-from q.from_a (q ∷ qs) rest rs (omega arith, h.1) f
