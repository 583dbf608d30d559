-- Where a decoration may stand.
use Rattle.std.specs.Prelude.{ℕ, Bool, true, false, nat_lt, ◌==◌, if◌then◌else◌, List, Option, Some, None}
use Rattle.std.specs.List.{list_any}
use Rattle.line_tree.specs.Lines.{lines_of}
use Rattle.line_tree.specs.declared.line.Line as lines
use Rattle.decoration.specs.declared.deco.Deco.{Deco}
use Rattle.decoration.specs.declared.deco.Deco.TheVariants as decos
use Rattle.decoration.specs.declared.kind.Kind.{Kind}
use Rattle.decoration.specs.declared.kind.Kind.TheVariants.{Mark, Widget, Replace, Line}
use Rattle.decoration.specs.declared.deco_error.DecoError.{DecoError}
use Rattle.decoration.specs.declared.deco_error.DecoError.TheVariants.{Reversed, EmptyMark, NotEmpty, BadReplace}

abbrev pub kind_of : Deco → Kind
kind_of (decos.Mark m) = Mark
kind_of (decos.Widget w) = Widget
kind_of (decos.Replace r) = Replace
kind_of (decos.Line style) = Line

-- a mark and a replacement stand over characters, a widget and a line decoration between them
abbrev pub kind_fault : Kind → (is_empty : Bool) → Option DecoError
kind_fault Mark true = Some EmptyMark
kind_fault Widget false = Some NotEmpty
kind_fault Replace true = Some BadReplace
kind_fault Line false = Some NotEmpty
kind_fault kind is_empty = None

-- the first fault of a range for a decoration of this kind
abbrev pub place_fault : Kind → (from to : ℕ) → Option DecoError
place_fault kind from to = if nat_lt to from then Some (Reversed 0) else kind_fault kind (from == to)

-- whether a line of the text starts at the place
abbrev pub is_line_start : List ℕ → ℕ → Bool
is_line_start text place = list_any (λ (line : lines.Line). line.from == place) (lines_of text)
