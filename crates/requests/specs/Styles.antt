-- Colours and styles as a script writes them.
use Rattle.std.specs.Prelude.{ℕ, List, [], ◌∷◌, false, Option, Some, None, Result, Ok, if◌then◌else◌, ◌==◌, codes, option_and_then}
use Rattle.serde_json.specs.Data.{Data}
use Rattle.serde_json.specs.Find.{as_number, as_u64}
use Rattle.decoration.specs.declared.color.Color.{Color}
use Rattle.decoration.specs.declared.color.Color.TheVariants.{Black, Red, Green, Yellow, Blue, Magenta, Cyan, White}
use Rattle.decoration.specs.declared.style.Style.{Style}
use Rattle.script.specs.declared.refusal.Refusal.{Refusal}
use Rattle.script.specs.Reading.{◌>>=◌, or_bad, defaulted, optional, flag_at, members_at, only}

-- the colour of a number from 0 to 7 (ECMA-48, select graphic rendition)
abbrev pub color_numbered : ℕ → Option Color
color_numbered n =
    if n == 0 then Some Black
    else (if n == 1 then Some Red
    else (if n == 2 then Some Green
    else (if n == 3 then Some Yellow
    else (if n == 4 then Some Blue
    else (if n == 5 then Some Magenta
    else (if n == 6 then Some Cyan
    else (if n == 7 then Some White else None)))))))

unfoldable pub color_at : List ℕ → Data → Result Color Refusal
color_at name d = or_bad name (option_and_then color_numbered (option_and_then as_u64 (as_number d)))

-- a style: {fg (default none), bg (default none), bold, underline, reverse (default false)}
unfoldable pub style_of : List ℕ → Data → Result Style Refusal
style_of name d = do
  members ← members_at name d
  fg ← optional (codes "fg") color_at d
  bg ← optional (codes "bg") color_at d
  bold ← defaulted (codes "bold") flag_at false d
  underline ← defaulted (codes "underline") flag_at false d
  reverse ← defaulted (codes "reverse") flag_at false d
  known ← only (codes "fg" ∷ codes "bg" ∷ codes "bold" ∷ codes "underline" ∷ codes "reverse" ∷ []) members
  Ok (record { fg = fg; bg = bg; bold = bold; underline = underline; reverse = reverse })

-- no colour and no flag
abbrev pub no_style : Style
no_style = record { fg = None; bg = None; bold = false; underline = false; reverse = false }
