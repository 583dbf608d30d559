-- The codes of a style are ASCII.
use Rattle.std.proofs.Common.{ℕ, ◌<◌, Bool, true, false, Option, Some, None, List, [], ◌∷◌, arith}
use Rattle.std.specs.Prelude.{codes}
use Rattle.std.specs.Str.{IsAscii}
use Rattle.std.specs.Fmt.{decimal}
use Rattle.std.proofs.lemmas.Fmt.{IsAscii-decimal}
use Rattle.std.proofs.lemmas.Str.{IsAscii-append}
use Rattle.std.proofs.lemmas.Str.Ascii.{IsAscii-cons, IsAscii-nil}
use Rattle.decoration.specs.declared.style.Style.{Style}
use Rattle.decoration.specs.declared.color.Color.{Color}
use Rattle.decoration.specs.Colors.{number_of}
use Rattle.term_bytes.specs.Frame.{color_code, flag_code, style_codes}
use Rattle.term_bytes.proofs.FrameText.{color_small}

two_ascii : (a b : ℕ) → a < 128 → b < 128 → IsAscii (a ∷ b ∷ [])
two_ascii a b first second = IsAscii-cons a (b ∷ []) first (IsAscii-cons b [] second IsAscii-nil)

flag_ascii : (wanted : Bool) (code : List ℕ) → IsAscii code → IsAscii (flag_code wanted code)
flag_ascii true code ascii = ascii
flag_ascii false code ascii = IsAscii-nil

color_ascii : (code : List ℕ) (color : Option Color) → IsAscii code → IsAscii (color_code code color)
color_ascii code None ascii = IsAscii-nil
color_ascii code (Some color) ascii = IsAscii-append code (decimal (number_of color)) ascii (IsAscii-decimal (number_of color) (omega (arith, color_small color)))

pub codes_ascii : (s : Style) → IsAscii (style_codes s)
codes_ascii s =
    let two = λ (b : ℕ) (small : b < 128). two_ascii 59 b (omega arith) small in
    let bold = flag_ascii s.bold (codes ";1") (two 49 (omega arith)) in
    let underline = flag_ascii s.underline (codes ";4") (two 52 (omega arith)) in
    let reverse = flag_ascii s.reverse (codes ";7") (two 55 (omega arith)) in
    let fg = color_ascii (codes ";3") s.fg (two 51 (omega arith)) in
    let bg = color_ascii (codes ";4") s.bg (two 52 (omega arith)) in
    IsAscii-append _ _ (IsAscii-append _ _ (IsAscii-append _ _ (IsAscii-append _ _ bold underline) reverse) fg) bg
