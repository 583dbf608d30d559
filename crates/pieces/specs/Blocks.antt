-- What the code's blocks stand for.
use Rattle.std.specs.Prelude.{◌≡◌, ℕ, ◌+◌, ◌<◌, length}
use Rattle.std.specs.List.{slice_index_or}
use Rattle.pieces.specs.Pieces.{BlockView}
use Rattle.pieces.specs.Shading.{style_at}
use Rattle.decoration.specs.declared.style.Style.{Style}
use Rattle.pieces.specs.declared.block_pieces.Block.{Block}

abbrev pub shown_block : Block → BlockView
shown_block b =
    record { text = b.text.now.characters; from = b.from; to = b.to; style = b.style; style_of = λ p. style_at b.style b.ranges.items (b.from + p) }

-- the styles that the block lists are those of its first characters
abbrev pub AreStyled : Block → Type 0
AreStyled b = (p : ℕ) (d : Style) → p < length b.styles.items → slice_index_or b.styles.items p d ≡ style_at b.style b.ranges.items (b.from + p)
