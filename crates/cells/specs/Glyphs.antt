-- What a cell's field stands for.
use Rattle.cells.specs.Layout.{Shown, blank, first, further}
use Rattle.cells.specs.declared.cell.Glyph.{Glyph}
use Rattle.cells.specs.declared.cell.Glyph.TheVariants as glyphs

abbrev pub shown : Glyph → Shown
shown glyphs.Blank = blank
shown (glyphs.First cluster after) = first cluster.items after
shown (glyphs.Further before after) = further before after
