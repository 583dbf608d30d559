-- Mapping one set over another section by section: one step of the walk. For private clauses.
use Rattle.std.specs.Prelude.{◌≡◌, ℕ, ◌+◌, ◌<◌, min, Bool, false, not, cond, ◌&&◌, ◌||◌, List, [], ◌∷◌}
use Rattle.change_desc.specs.declared.tail.Tail.{Tail}
use Rattle.change_desc.specs.declared.tail.Tail.TheVariants.{Kept}
use Rattle.change_desc.specs.declared.weave.Weave.{Weave}
use Rattle.change_desc.specs.Sections.{counted, new_of, normal}
use Rattle.change_desc.specs.Columns.{width, Row, last, Fate}
use Rattle.change_desc.specs.Pieces.{Piece, single, stretch}
use Rattle.change_desc.specs.Map.{mapped}
use Rattle.change_desc.specs.Tails.{row_old, left_old, still_new, is_fresh, weight, IsTail}
use Rattle.change_desc.specs.Weaving.{woven, old_done}

-- tails of two sets over one text, with rows after them, as far along it
pub record Level (a b : Tail) (r s : Row ℕ (Fate ℕ)) : Type 0 where
  pub level : left_old a + width r ≡ left_old b + width s
  pub ended_first : a ≡ Kept 0 → r ≡ last 0
  pub ended_second : b ≡ Kept 0 → s ≡ last 0

-- whether the second set's text is next
abbrev pub second_next : (before : Bool) → Tail → Tail → Bool
second_next before a b = is_fresh b && (before || not (is_fresh a))

-- what the next step of a mapping puts into the new text
abbrev pub next_len : (before : Bool) → Tail → Tail → ℕ
next_len before a b = cond (second_next before a b) (still_new b) (cond (is_fresh a) (still_new a) (min (still_new a) (still_new b)))

pub record CanMap (a b : Tail) : Type 0 where
  pub some : 0 < weight a + weight b
  pub end_first : a ≡ Kept 0 → left_old b ≡ 0
  pub end_second : b ≡ Kept 0 → left_old a ≡ 0

-- a step of a mapping
pub record Maps (before : Bool) (w v : Weave) (a b c d : Tail) : Type 0 where
  pub goes : (r s : Row ℕ (Fate ℕ)) → Level a b r s → woven v (mapped counted before (row_old c r) (row_old d s)) ≡ woven w (mapped counted before (row_old a r) (row_old b s))
  pub is_normal : normal counted v.sections.items ≡ v.sections.items
  pub is_tail : IsTail c × IsTail d
  pub old : old_done v + still_new c ≡ old_done w + still_new a
  pub level : left_old a + left_old d ≡ left_old c + left_old b
  pub lighter : left_old c + weight c + weight d < left_old a + weight a + weight b

-- how much new text pieces give
abbrev pub pieces_new : List (Piece ℕ) → ℕ
pieces_new [] = 0
pieces_new (single x ∷ ps) = new_of counted x + pieces_new ps
pieces_new (stretch b n t ∷ ps) = t + pieces_new ps

-- how long the text is that two sets come to, along the text that both start from
abbrev pub merged_len : Row ℕ (Fate ℕ) → Row ℕ (Fate ℕ) → ℕ
merged_len r s = pieces_new (mapped counted false r s)

-- a step of a walk that adds up this length
pub record Measures (a b c d : Tail) (n : ℕ) : Type 0 where
  pub goes : (r s : Row ℕ (Fate ℕ)) → Level a b r s → n + merged_len (row_old c r) (row_old d s) ≡ merged_len (row_old a r) (row_old b s)
  pub is_tail : IsTail c × IsTail d
  pub level : left_old a + left_old d ≡ left_old c + left_old b
  pub lighter : left_old c + weight c + weight d < left_old a + weight a + weight b
