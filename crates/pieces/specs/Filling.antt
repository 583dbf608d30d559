-- For private clauses: pieces that are put one after the other, of which those that are wanted are kept.
use Rattle.std.specs.Prelude.{ℕ, ◌+◌, ◌<◌, ◌≤◌, Bool, true, false, not, ◌&&◌, ◌||◌, ◌==◌, nat_le, nat_lt, List, length, [], ◌∷◌, ◌++◌, if◌then◌else◌}
use Rattle.cells.specs.Layout.{cells_of}
use Rattle.decoration.specs.declared.style.Style.{Style}
use Rattle.pieces.specs.Edge.{cut_at, is_past}
use Rattle.pieces.specs.Piece.{PieceView, PiecesView}
use Rattle.pieces.specs.Standing.{piece_at}
use Rattle.pieces.specs.declared.goal.Goal.{Goal}
use Rattle.pieces.specs.declared.goal.Goal.TheVariants.{Whole, Shown, At}

-- the pieces that are kept, what is wanted of all, the column in which the next piece begins, which counts only where some are
-- wanted, and whether a piece was left out since all that are wanted are kept
pub record FillingView : Type 0 where
  pub pieces : PiecesView
  pub goal : Goal
  pub at : ℕ
  pub over : Bool

-- a tab stands for 1 to 16 columns
abbrev pub GoalFits : Goal → Type 0
GoalFits Whole = Unit {0}
GoalFits (Shown e) = (0 < e.tab) × (e.tab ≤ 16)
GoalFits (At tab pos) = (0 < tab) × (tab ≤ 16)

-- what is wanted of the pieces of a block
abbrev pub wanted : Goal → PiecesView → PiecesView
wanted Whole p = p
wanted (Shown e) p = cut_at e p
wanted (At tab pos) p = piece_at tab pos p

abbrev pub has_piece : List PieceView → Bool
has_piece [] = false
has_piece (p ∷ ps) = true

-- whether all that is wanted is kept where the next piece begins in column `at`
abbrev pub is_reached : Goal → (some : Bool) → (at : ℕ) → Bool
is_reached Whole some at = false
is_reached (Shown e) some at = is_past e at
is_reached (At tab pos) some at = some

abbrev pub is_full : FillingView → Bool
is_full f = f.over || is_reached f.goal (has_piece f.pieces.pieces) f.at

-- how many columns a text takes that begins in column `at`, where some are wanted
abbrev pub width_in : Goal → ℕ → List ℕ → ℕ
width_in Whole at text = 0
width_in (Shown e) at text = length (cells_of e.tab at text)
width_in (At tab pos) at text = length (cells_of tab at text)

-- whether a piece that ends before column `end` stands before all that is wanted
abbrev pub is_passed : Goal → (end place : ℕ) → (before_cursor : Bool) → Bool
is_passed Whole end place before_cursor = false
is_passed (Shown e) end place before_cursor = nat_le end e.left
is_passed (At tab pos) end place before_cursor = nat_lt place pos || (place == pos && before_cursor)

-- a piece is passed over
abbrev pub passed : FillingView → (end : ℕ) → FillingView
passed f end = record f { pieces = record f.pieces { start = end }; at = end }

-- a piece is kept
abbrev pub with_piece : FillingView → PieceView → (end : ℕ) → FillingView
with_piece f p end = record f { pieces = record f.pieces { pieces = f.pieces.pieces ++ p ∷ [] }; at = end }

-- a piece is left out
abbrev pub ended : FillingView → FillingView
ended f = record f { over = true }

abbrev pub after : FillingView → PieceView → (end : ℕ) → FillingView
after f p end = if not (has_piece f.pieces.pieces) && is_passed f.goal end p.place p.before_cursor then passed f end else with_piece f p end

-- one piece more
abbrev pub put : FillingView → PieceView → FillingView
put f p = if is_full f then ended f else after f p (f.at + width_in f.goal f.at p.text)

unfoldable pub put_all : FillingView → List PieceView → FillingView
put_all f [] = f
put_all f (p ∷ ps) = put_all (put f p) ps

abbrev pub begun : Style → Goal → FillingView
begun style goal = record { pieces = record { style = style; start = 0; pieces = [] }; goal = goal; at = 0; over = false }

-- all of these pieces put
abbrev pub all_put : Goal → PiecesView → FillingView
all_put goal p = put_all (begun p.style goal) p.pieces
