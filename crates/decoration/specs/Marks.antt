-- A mark as plain data (Reference Manual: Decoration.mark), and the four numbers that it is kept in.
use Rattle.std.specs.Prelude.{ℕ, zero, suc, ◌+◌, ◌/◌, ◌%◌, ◌==◌, Bool, if◌then◌else◌, Option, Some, None}
use Rattle.decoration.specs.declared.color.Color.{Color}
use Rattle.decoration.specs.declared.color.Color.TheVariants.{Black, Red, Green, Yellow, Blue, Magenta, Cyan, White}
use Rattle.decoration.specs.declared.style.Style.{Style}
use Rattle.decoration.specs.declared.inclusive.Inclusive.{Inclusive}
use Rattle.decoration.specs.Colors.{number_of}

pub record MarkView : Type 0 where
  pub style : Style
  pub inclusive : Inclusive

-- the number for no colour: the colours have 0 to 7
abbrev pub no_color : ℕ
no_color = 8

abbrev pub color_of : ℕ → Option Color
color_of zero = Some Black
color_of (suc zero) = Some Red
color_of (suc (suc zero)) = Some Green
color_of (suc (suc (suc zero))) = Some Yellow
color_of (suc (suc (suc (suc zero)))) = Some Blue
color_of (suc (suc (suc (suc (suc zero))))) = Some Magenta
color_of (suc (suc (suc (suc (suc (suc zero)))))) = Some Cyan
color_of (suc (suc (suc (suc (suc (suc (suc zero))))))) = Some White
color_of (suc (suc (suc (suc (suc (suc (suc (suc n)))))))) = None

abbrev pub color_number : Option Color → ℕ
color_number (Some color) = number_of color
color_number None = no_color

-- the flags of a style as the sum of 1 for bold, 2 for underline and 4 for reverse; the ends as that of 1 and 2
abbrev pub flag_number : Bool → ℕ → ℕ
flag_number on worth = if on then worth else 0

-- whether the flag of this worth, a power of two, is in the sum
abbrev pub has_flag : (sum worth : ℕ) → Bool
has_flag sum worth = sum / worth % 2 == 1

abbrev pub style_number : Style → ℕ
style_number s = flag_number s.bold 1 + flag_number s.underline 2 + flag_number s.reverse 4

abbrev pub inclusive_number : Inclusive → ℕ
inclusive_number i = flag_number i.start 1 + flag_number i.end 2

abbrev pub style_of : (fg bg flags : ℕ) → Style
style_of fg bg flags =
    record {
      fg = color_of fg;
      bg = color_of bg;
      bold = has_flag flags 1;
      underline = has_flag flags 2;
      reverse = has_flag flags 4;
    }

abbrev pub inclusive_of : (ends : ℕ) → Inclusive
inclusive_of ends = record { start = has_flag ends 1; end = has_flag ends 2 }
