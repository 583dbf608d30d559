-- The numbers that a mark is kept in give its parts back.
use Rattle.std.proofs.Common.{◌≡◌, ◌+◌, Bool, true, false, Option, Some, None, refl, ap, ◌∙◌}
use Rattle.decoration.specs.declared.color.Color.{Color}
use Rattle.decoration.specs.declared.color.Color.TheVariants.{Black, Red, Green, Yellow, Blue, Magenta, Cyan, White}
use Rattle.decoration.specs.declared.style.Style.{Style}
use Rattle.decoration.specs.declared.inclusive.Inclusive.{Inclusive}
use Rattle.decoration.specs.Marks.{MarkView, color_of, color_number, flag_number}
use Rattle.decoration.specs.Marks.{style_of, style_number, inclusive_of, inclusive_number}

pub color_again : (c : Option Color) → color_of (color_number c) ≡ c
color_again None = refl
color_again (Some Black) = refl
color_again (Some Red) = refl
color_again (Some Green) = refl
color_again (Some Yellow) = refl
color_again (Some Blue) = refl
color_again (Some Magenta) = refl
color_again (Some Cyan) = refl
color_again (Some White) = refl

style_again : (fg bg : Option Color) (bold underline reverse : Bool)
    → style_of (color_number fg) (color_number bg) (flag_number bold 1 + flag_number underline 2 + flag_number reverse 4)
    ≡ record { fg = fg; bg = bg; bold = bold; underline = underline; reverse = reverse }
style_again fg bg false false false = rw (color_again fg, color_again bg) refl
style_again fg bg false false true = rw (color_again fg, color_again bg) refl
style_again fg bg false true false = rw (color_again fg, color_again bg) refl
style_again fg bg false true true = rw (color_again fg, color_again bg) refl
style_again fg bg true false false = rw (color_again fg, color_again bg) refl
style_again fg bg true false true = rw (color_again fg, color_again bg) refl
style_again fg bg true true false = rw (color_again fg, color_again bg) refl
style_again fg bg true true true = rw (color_again fg, color_again bg) refl

ends_again : (start end : Bool) → inclusive_of (flag_number start 1 + flag_number end 2) ≡ record { start = start; end = end }
ends_again false false = refl
ends_again false true = refl
ends_again true false = refl
ends_again true true = refl

abbrev mark_of : Style → Inclusive → MarkView
mark_of style inclusive = record { style = style; inclusive = inclusive }

pub mark_again : (s : Style) (i : Inclusive)
    → mark_of (style_of (color_number s.fg) (color_number s.bg) (style_number s)) (inclusive_of (inclusive_number i)) ≡ mark_of s i
mark_again s i =
    ap (λ style. mark_of style (inclusive_of (inclusive_number i))) (style_again s.fg s.bg s.bold s.underline s.reverse)
    ∙ ap (mark_of s) (ends_again i.start i.end)
