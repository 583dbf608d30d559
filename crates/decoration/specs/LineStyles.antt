-- The mark that the style of a line decoration is kept in.
use Rattle.std.specs.Prelude.{false}
use Rattle.decoration.specs.declared.style.Style.{Style}
use Rattle.decoration.specs.Marks.{MarkView}

abbrev pub line_mark : Style → MarkView
line_mark style = record { style = style; inclusive = record { start = false; end = false } }
