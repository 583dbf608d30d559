-- Protected ranges in order, and runs of characters that are all protected or all not: for private clauses.
use Rattle.std.specs.Prelude.{◌≡◌, ℕ, suc, ◌≤◌, ◌<◌, Bool, false, not, ◌&&◌, ◌||◌, ltb, leb, List, [], ◌∷◌, length, drop, map}
use Rattle.change_desc.specs.Filter.{is_in, is_protected}
use Rattle.change_set.specs.declared.protected_range.ProtectedRange.{ProtectedRange}

abbrev pub Range : Type 0
Range = ℕ × ℕ

-- Ranges in order, from a place on: each has a character, and no two overlap or touch.
abbrev pub Apart : (low : ℕ) → List Range → Type 0
Apart low [] = Unit {0}
Apart low (r ∷ rs) = (low ≤ r.0) × (r.0 < r.1) × Apart (suc r.1) rs

-- ranges that protect what others do
pub record AreJoined (given joined : List Range) : Type 0 where
  pub apart : Apart 0 joined
  pub same : (p : ℕ) → is_in joined p ≡ is_in given p

-- a place strictly inside one range
abbrev pub is_within : List Range → ℕ → Bool
is_within [] p = false
is_within (r ∷ rs) p = ltb r.0 p && ltb p r.1 || is_within rs p

-- so many ranges end at or before a place: from there on the others decide
pub record HasEnded (rs : List Range) (k pos : ℕ) : Type 0 where
  pub within : k ≤ length rs
  pub apart : Apart 0 (drop k rs)
  pub same : (p : ℕ) → pos ≤ p → is_in rs p ≡ is_in (drop k rs) p
  pub strict : (p : ℕ) → pos ≤ p → is_within rs p ≡ is_within (drop k rs) p

-- a run of characters from one place to another, all protected or none, which goes no further
pub record IsRun (rs : List Range) (len from to end : ℕ) : Type 0 where
  pub some : from < to
  pub within : to ≤ end
  pub alike : (p : ℕ) → from ≤ p → p < to → is_protected rs len p ≡ is_protected rs len from
  pub longest : to < end → is_protected rs len to ≡ not (is_protected rs len from)

-- whether a range has a character
abbrev pub has : Range → ℕ → Bool
has r p = leb r.0 p && ltb p r.1

-- all ranges start at a place or before it
abbrev pub StartBy : List Range → ℕ → Type 0
StartBy [] n = Unit {0}
StartBy (r ∷ rs) n = (r.0 ≤ n) × StartBy rs n

-- one more range is protected, which starts after the others do
pub record Joins (old new : List Range) (r : Range) : Type 0 where
  pub apart : Apart 0 new
  pub same : (p : ℕ) → is_in new p ≡ (is_in old p || has r p)
  pub starts : (n : ℕ) → StartBy old n → r.0 ≤ n → StartBy new n

-- the ranges of a document as pairs, in the order of their starts
abbrev pub pairs : List ProtectedRange → List Range
pairs rs = map (λ r. (r.from, r.to)) rs

abbrev pub AllFrom : ℕ → List ProtectedRange → Type 0
AllFrom n [] = Unit {0}
AllFrom n (r ∷ rs) = (n ≤ r.from) × AllFrom n rs

abbrev pub Rising : List ProtectedRange → Type 0
Rising [] = Unit {0}
Rising (r ∷ rs) = AllFrom r.from rs × Rising rs

pub record AreSorted (given : List Range) (sorted : List ProtectedRange) : Type 0 where
  pub same : (p : ℕ) → is_in (pairs sorted) p ≡ is_in given p
  pub rising : Rising sorted

-- all ranges start before those that come
abbrev pub StartBefore : List Range → List ProtectedRange → Type 0
StartBefore joined [] = Unit {0}
StartBefore joined (r ∷ rs) = StartBy joined r.from × StartBefore joined rs
