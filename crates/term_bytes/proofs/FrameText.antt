-- The characters of a frame: their bytes are the frame's.
use Rattle.std.proofs.Common.{◌≡◌, ℕ, ◌+◌, ◌<◌, ◌^◌, arith, Bool, true, false, Option, Some, None, List, [], ◌∷◌, ◌++◌, length, refl, sym, ◌∙◌, append_assoc, if◌then◌else◌}
use Rattle.std.specs.Prelude.{codes, encode_utf8_all}
use Rattle.std.specs.Fmt.{decimal}
use Rattle.std.specs.Global.{Vec}
use Rattle.std.proofs.lemmas.Fmt.{IsAscii-decimal_wide}
use Rattle.std.proofs.lemmas.Str.{encodes-append, encodes-IsAscii}
use lib.Utf8.{encode}
use Rattle.line_rows.specs.Run.{RunView}
use Rattle.pieces.specs.Styles.{is_plain, plain, same_style}
use Rattle.decoration.specs.declared.style.Style.{Style}
use Rattle.decoration.specs.declared.color.Color.{Color}
use Rattle.decoration.specs.declared.color.Color.TheVariants.{Black, Red, Green, Yellow, Blue, Magenta, Cyan, White}
use Rattle.decoration.specs.Colors.{number_of}
use Rattle.term_bytes.specs.Frame.{change_bytes, color_code, flag_code, frame, place, row, rows_from, run_bytes, runs_from, start, style_bytes, style_codes}

abbrev pub run_text : Style → RunView → List ℕ
run_text before run = change_bytes before run.style ++ run.text

abbrev pub runs_text : Style → List RunView → List ℕ
runs_text before [] = runs_from before []
runs_text before (run ∷ runs) = run_text before run ++ runs_text run.style runs

abbrev pub row_text : List RunView → List ℕ
row_text runs = runs_text plain runs ++ start ++ codes "K"

-- rows, and what follows them
abbrev pub rows_text : List ℕ → ℕ → List (Vec RunView) → List ℕ
rows_text end number [] = end
rows_text end number (runs ∷ rows) = place number 1 ++ row_text runs.items ++ rows_text end (number + 1) rows

abbrev pub frame_text : List (Vec RunView) → ℕ → ℕ → List ℕ
frame_text rows r c = start ++ codes "H" ++ rows_text (place (r + 1) (c + 1)) 1 rows

-- these bytes are those of the characters
record Spells (characters bytes : List ℕ) : Type 0 where
  is : encode_utf8_all characters ≡ bytes

both : {xs ys bs cs : List ℕ} → Spells xs bs → Spells ys cs → Spells (xs ++ ys) (bs ++ cs)
both {xs} {ys} x y = record { is = encodes-append xs ys ∙ rw (x.is, y.is) refl }

number_bytes : (n : ℕ) → n < 10 ^ 64 → Spells (decimal n) (decimal n)
number_bytes n small = record { is = encodes-IsAscii (decimal n) (IsAscii-decimal_wide n small) }

pub color_small : (color : Color) → number_of color < 8
color_small Black = omega arith
color_small Red = omega arith
color_small Green = omega arith
color_small Yellow = omega arith
color_small Blue = omega arith
color_small Magenta = omega arith
color_small Cyan = omega arith
color_small White = omega arith

start_bytes : Spells start start
unfolding encode
start_bytes = record { is = refl }

place_bytes : (r c : ℕ) → r < 10 ^ 64 → c < 10 ^ 64 → Spells (place r c) (place r c)
unfolding encode
place_bytes r c small few =
    let middle : Spells (codes ";") (codes ";") = record { is = refl } in
    let end : Spells (codes "H") (codes "H") = record { is = refl } in
    both (both (both (both start_bytes (number_bytes r small)) middle) (number_bytes c few)) end

flag_bytes : (wanted : Bool) (code : List ℕ) → Spells code code → Spells (flag_code wanted code) (flag_code wanted code)
flag_bytes true code same = same
flag_bytes false code same = record { is = refl }

color_bytes : (color : Option Color) (code : List ℕ) → Spells code code → Spells (color_code code color) (color_code code color)
color_bytes None code same = record { is = refl }
color_bytes (Some color) code same = both same (number_bytes (number_of color) (omega (arith, color_small color)))

codes_bytes : (s : Style) → Spells (style_codes s) (style_codes s)
unfolding encode
codes_bytes s =
    let one : Spells (codes ";1") (codes ";1") = record { is = refl } in
    let three : Spells (codes ";3") (codes ";3") = record { is = refl } in
    let four : Spells (codes ";4") (codes ";4") = record { is = refl } in
    let seven : Spells (codes ";7") (codes ";7") = record { is = refl } in
    both (both (both (both (flag_bytes s.bold _ one) (flag_bytes s.underline _ four)) (flag_bytes s.reverse _ seven)) (color_bytes s.fg _ three)) (color_bytes s.bg _ four)

style_same : (s : Style) → Spells (style_bytes s) (style_bytes s)
unfolding encode
style_same s =
    let zero : Spells (codes "0") (codes "0") = record { is = refl } in
    let end : Spells (codes "m") (codes "m") = record { is = refl } in
    both (both (both start_bytes zero) (codes_bytes s)) end

change_same : (same : Bool) (s : Style) → Spells (if same then [] else style_bytes s) (if same then [] else style_bytes s)
change_same true s = record { is = refl }
change_same false s = style_same s

end_same : (none : Bool) → Spells (if none then [] else start ++ codes "0m") (if none then [] else start ++ codes "0m")
unfolding encode
end_same true = record { is = refl }
end_same false = record { is = refl }

run_spells : (before : Style) (run : RunView) → Spells (run_text before run) (run_bytes before run)
run_spells before run =
    let text : Spells run.text (encode_utf8_all run.text) = record { is = refl } in
    both (change_same (same_style run.style before) run.style) text

runs_bytes : (before : Style) (runs : List RunView) → Spells (runs_text before runs) (runs_from before runs)
runs_bytes before [] = end_same (is_plain before)
runs_bytes before (run ∷ runs) = both (run_spells before run) (runs_bytes run.style runs)

row_bytes : (runs : List RunView) → Spells (row_text runs) (row runs)
unfolding encode
row_bytes runs =
    let end : Spells (codes "K") (codes "K") = record { is = refl } in
    both (both (runs_bytes plain runs) start_bytes) end

rows_bytes : (end : List ℕ) (number : ℕ) (rows : List (Vec RunView)) → number + length rows < 10 ^ 64 → Spells end end → Spells (rows_text end number rows) (rows_from number rows ++ end)
rows_bytes end number [] few same = same
rows_bytes end number (runs ∷ rows) few same =
    let more = both (both (place_bytes number 1 (omega (arith, few)) (omega arith)) (row_bytes runs.items)) (rows_bytes end (number + 1) rows (omega (arith, few)) same) in
    record { is = more.is ∙ sym (append_assoc (place number 1 ++ row runs.items) (rows_from (number + 1) rows) end) }

pub frame_bytes_same : (rows : List (Vec RunView)) (r c : ℕ) → length rows + 1 < 10 ^ 64 → r + 1 < 10 ^ 64 → c + 1 < 10 ^ 64 → encode_utf8_all (frame_text rows r c) ≡ frame rows r c
unfolding encode
frame_bytes_same rows r c few small narrow =
    let home : Spells (codes "H") (codes "H") = record { is = refl } in
    let end = place_bytes (r + 1) (c + 1) small narrow in
    let whole = both (both start_bytes home) (rows_bytes (place (r + 1) (c + 1)) 1 rows (omega (arith, few)) end) in
    whole.is ∙ sym (append_assoc (start ++ codes "H") (rows_from 1 rows) (place (r + 1) (c + 1)))
