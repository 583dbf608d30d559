-- What a piece of a block is.
use Rattle.std.specs.Prelude.{ℕ, Bool, List}
use Rattle.decoration.specs.declared.style.Style.{Style}

-- A cluster, or the text of a widget or a replacement: its place from the block's start, its characters, its style, and whether
-- a cursor at its place stands after it.
pub record PieceView : Type 0 where
  pub place : ℕ
  pub text : List ℕ
  pub style : Style
  pub before_cursor : Bool

-- pieces of a block in their order, the column in which the first of them begins, and the block's own style
pub record PiecesView : Type 0 where
  pub style : Style
  pub start : ℕ
  pub pieces : List PieceView
