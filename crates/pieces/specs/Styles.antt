-- Styles: their equality as a test, and one over another.
use Rattle.std.specs.Prelude.{Bool, true, false, not, ◌&&◌, ◌||◌, nat_eq, Option, Some, None}
use Rattle.std.specs.Option.{option_or}
use Rattle.decoration.specs.declared.style.Style.{Style}
use Rattle.decoration.specs.declared.color.Color.{Color}
use Rattle.decoration.specs.Colors.{number_of}

abbrev pub same_flag : Bool → Bool → Bool
same_flag true b = b
same_flag false b = not b

abbrev pub same_color : Option Color → Option Color → Bool
same_color None None = true
same_color (Some a) (Some b) = nat_eq (number_of a) (number_of b)
same_color _ _ = false

abbrev pub same_style : Style → Style → Bool
same_style a b = same_color a.fg b.fg && same_color a.bg b.bg && same_flag a.bold b.bold && same_flag a.underline b.underline && same_flag a.reverse b.reverse

-- the style that changes nothing
abbrev pub plain : Style
plain = record { fg = None; bg = None; bold = false; underline = false; reverse = false }

abbrev pub is_plain : Style → Bool
is_plain s = same_style s plain

-- A style over another: a colour that is given replaces the one under it; bold, underline and reverse add up.
abbrev pub over : Style → Style → Style
over under upper = record {
  fg = option_or upper.fg under.fg;
  bg = option_or upper.bg under.bg;
  bold = under.bold || upper.bold;
  underline = under.underline || upper.underline;
  reverse = under.reverse || upper.reverse;
}
