-- Composing two sets section by section: what is done, and one step of the walk. For private clauses.
use Rattle.std.specs.Prelude.{◌≡◌, ℕ, ◌+◌, ◌<◌, true, false, List, ◌∷◌, ◌++◌}
use Rattle.change_desc.specs.declared.section.Section.{Section}
use Rattle.change_desc.specs.declared.tail.Tail.{Tail}
use Rattle.change_desc.specs.declared.tail.Tail.TheVariants.{Kept}
use Rattle.change_desc.specs.declared.weave.Weave.{Weave}
use Rattle.change_desc.specs.Sections.{counted, normal, old_size, new_size}
use Rattle.change_desc.specs.Columns.{width, Row, last, Fate, Origin}
use Rattle.change_desc.specs.Pieces.{Piece, stretch, closed, gather}
use Rattle.change_desc.specs.Compose.{composed}
use Rattle.change_desc.specs.Tails.{row_new, row_old, is_fresh_new, is_fresh_old, left_new, left_old, still_old, still_new, IsTail, present}

-- what it all comes to once these pieces are put after what is done: sections, and a Replace that may still grow
abbrev pub woven : Weave → List (Piece ℕ) → List (Section ℕ)
woven w ps = normal counted (w.sections.items ++ closed counted (gather counted (stretch false w.count w.len ∷ ps)))

abbrev pub old_done : Weave → ℕ
old_done w = old_size w.sections.items + w.count

abbrev pub new_done : Weave → ℕ
new_done w = new_size counted w.sections.items + w.len

-- one more piece is done
pub record Takes (w v : Weave) (p : Piece ℕ) (n t : ℕ) : Type 0 where
  pub goes : (ps : List (Piece ℕ)) → woven v ps ≡ woven w (p ∷ ps)
  pub is_normal : normal counted v.sections.items ≡ v.sections.items
  pub old : old_done v ≡ old_done w + n
  pub new : new_done v ≡ new_done w + t

-- tails of the two sets with rows after them, as far along the text between
pub record Ready (a b : Tail) (r : Row ℕ (Origin (Unit {0}))) (s : Row ℕ (Fate ℕ)) : Type 0 where
  pub fresh_new : is_fresh_new r ≡ true
  pub fresh_old : is_fresh_old s ≡ true
  pub level : left_new a + width r ≡ left_old b + width s
  pub ended : a ≡ Kept 0 → r ≡ last 0

-- something is left, and the two are at the end of the text between together
pub record CanStep (a b : Tail) : Type 0 where
  pub some : 0 < left_new a + still_old a + left_old b + still_new b
  pub end_first : a ≡ Kept 0 → left_old b ≡ 0
  pub end_second : b ≡ Kept 0 → left_new a ≡ 0

-- a step of the walk: what is done and what is left come to the same, whatever is after
pub record Steps (w v : Weave) (a b c d : Tail) : Type 0 where
  pub goes : (r : Row ℕ (Origin (Unit {0}))) (s : Row ℕ (Fate ℕ)) → Ready a b r s → woven v (composed counted (row_new c r) (row_old d s)) ≡ woven w (composed counted (row_new a r) (row_old b s))
  pub is_normal : normal counted v.sections.items ≡ v.sections.items
  pub is_tail : IsTail c × IsTail d
  pub old : old_done v + still_old c ≡ old_done w + still_old a
  pub new : new_done v + still_new d ≡ new_done w + still_new b
  pub level : left_new a + left_old d ≡ left_new c + left_old b
  pub less : left_new c + present c + present d < left_new a + present a + present b
