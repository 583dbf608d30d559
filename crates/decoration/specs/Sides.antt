-- How the ranges of decorations move: their sides and modes. The numbers are this project's own.
use Rattle.std.specs.Prelude.{Bool, true, false, ℤ, pos, negsuc, ◌-ℤ◌, int_lt, if◌then◌else◌}
use Rattle.change_desc.specs.declared.map_mode.MapMode.{MapMode}
use Rattle.change_desc.specs.declared.map_mode.MapMode.TheVariants.{TrackDel, TrackBefore}
use Rattle.range_set.specs.Rules.{RangeRules}
use Rattle.decoration.specs.declared.inclusive.Inclusive.{Inclusive}
use Rattle.decoration.specs.declared.deco.Deco.{Deco}
use Rattle.decoration.specs.declared.deco.Deco.TheVariants.{Mark, Widget, Replace, Line}

-- 20000 at a start and -20000 at an end; an inclusive end has the other sign
abbrev pub start_of : Inclusive → ℤ
start_of i = if i.start then negsuc 19999 else pos 20000

abbrev pub end_of : Inclusive → ℤ
end_of i = if i.end then pos 20000 else negsuc 19999

-- a widget's side where that is over 0, else one less, so that one of side 0 stays before text inserted at its place
abbrev pub widget_side : ℤ → ℤ
widget_side side = if int_lt (pos 0) side then side else side -ℤ pos 1

abbrev pub line_side : ℤ
line_side = negsuc 29999

abbrev pub start_side : Deco → ℤ
start_side (Mark m) = start_of m.inclusive
start_side (Widget w) = widget_side w.side
start_side (Replace r) = start_of r.inclusive
start_side (Line style) = line_side

abbrev pub end_side : Deco → ℤ
end_side (Mark m) = end_of m.inclusive
end_side (Widget w) = widget_side w.side
end_side (Replace r) = end_of r.inclusive
end_side (Line style) = line_side

-- a line decoration goes with the character before it, another one with the text around it
abbrev pub mode_of : Deco → MapMode
mode_of (Line style) = TrackBefore
mode_of d = TrackDel

abbrev pub is_point : Deco → Bool
is_point (Mark m) = false
is_point d = true

abbrev pub deco_rules : RangeRules Deco
deco_rules = record { start_side = start_side; end_side = end_side; mode = mode_of; is_point = is_point }
