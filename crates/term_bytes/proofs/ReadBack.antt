-- A frame read back.
use Rattle.std.proofs.Common.{◌≡◌, ℕ, ◌+◌, ◌<◌, ◌≤◌, ◌^◌, arith, Bool, true, false, List, [], ◌∷◌, ◌++◌, length, refl, sym, ap, ◌∙◌, append_assoc, append-nil, if◌then◌else◌}
use Rattle.std.specs.Prelude.{codes, String}
use Rattle.std.specs.Str.{chars}
use Rattle.std.specs.String.{string_bytes}
use Rattle.std.specs.List.{list_any}
use Rattle.std.specs.Global.{Vec}
use Rattle.std.proofs.lemmas.Str.{chars_from_encodes, IsUtf8-string_bytes}
use Rattle.cells.specs.Layout.{is_control}
use Rattle.line_rows.specs.Run.{RunView}
use Rattle.pieces.specs.Styles.{is_plain, plain, same_style}
use Rattle.pieces.proofs.SameText.{same_style-is}
use Rattle.decoration.specs.declared.style.Style.{Style}
use Rattle.term_bytes.specs.Frame.{frame, place, start, style_bytes}
use Rattle.term_bytes.specs.Reading.{Drawn, Line, ReadsBack, Terminal, at_text, in_sequence, drawn, drawn_runs, has_control, lines_from, put, read, row_has_control, run_has_control}
use Rattle.term_bytes.proofs.FrameText.{frame_bytes_same, frame_text, row_text, rows_text, run_text, runs_text}
use Rattle.term_bytes.proofs.Laid.{neither}
use Rattle.term_bytes.proofs.StyleReading.{Reads, goes, reads_place, reads_style}

-- characters in the style
abbrev written : Terminal → List ℕ → Terminal
written t cs = record t { content = t.content ++ drawn t.style cs }

text_read : (cs : List ℕ) (t : Terminal) → list_any is_control cs ≡ false → read (at_text t) cs ≡ at_text (written t cs)
text_read [] t none = ap (λ (xs : List Drawn). at_text (record t { content = xs })) (sym (append-nil t.content))
text_read (c ∷ cs) t none =
    let parts = neither (is_control c) (list_any is_control cs) none in
    rw parts.0 (text_read cs (put t c) parts.1 ∙ ap (λ (xs : List Drawn). at_text (record t { content = xs })) (append_assoc t.content (record { character = c; style = t.style } ∷ []) (drawn t.style cs)))

reads_text : (cs : List ℕ) (t : Terminal) → list_any is_control cs ≡ false → Reads (at_text t) cs (at_text (written t cs))
reads_text cs t none = record { is = text_read cs t none }

-- a run after a terminal's style
abbrev with_run : Terminal → RunView → Terminal
with_run t run = record t { style = run.style; content = t.content ++ drawn run.style run.text }

reads_run_by : (same : Bool) (t : Terminal) (run : RunView) → same_style run.style t.style ≡ same → run_has_control run ≡ false → Reads (at_text t) ((if same then [] else style_bytes run.style) ++ run.text) (at_text (with_run t run))
reads_run_by true t run is none =
    record { is = text_read run.text t none ∙ ap (λ (s : Style). at_text (record t { style = s; content = t.content ++ drawn s run.text })) (sym (same_style-is run.style t.style is)) }
reads_run_by false t run is none = goes (reads_style t run.style) (reads_text run.text (record t { style = run.style }) none)

reads_run : (t : Terminal) (run : RunView) → run_has_control run ≡ false → Reads (at_text t) (run_text t.style run) (at_text (with_run t run))
reads_run t run none = reads_run_by (same_style run.style t.style) t run refl none

reads_end_by : (none : Bool) (t : Terminal) → is_plain t.style ≡ none → read (at_text t) (if none then [] else start ++ codes "0m") ≡ at_text (record t { style = plain })
reads_end_by true t is = ap (λ (s : Style). at_text (record t { style = s })) (same_style-is t.style plain is)
reads_end_by false t is = refl

-- runs, and no style after them
abbrev with_runs : Terminal → List RunView → Terminal
with_runs t runs = record t { style = plain; content = t.content ++ drawn_runs runs }

reads_runs : (runs : List RunView) (t : Terminal) → list_any run_has_control runs ≡ false → Reads (at_text t) (runs_text t.style runs) (at_text (with_runs t runs))
reads_runs [] t none = record { is = reads_end_by (is_plain t.style) t refl ∙ ap (λ (xs : List Drawn). at_text (record t { style = plain; content = xs })) (sym (append-nil t.content)) }
reads_runs (run ∷ runs) t none =
    let parts = neither (run_has_control run) (list_any run_has_control runs) none in
    let whole = goes (reads_run t run parts.0) (reads_runs runs (with_run t run) parts.1) in
    record { is = whole.is ∙ ap (λ (xs : List Drawn). at_text (record t { style = plain; content = xs })) (append_assoc t.content (drawn run.style run.text) (drawn_runs runs)) }

-- a terminal without style
abbrev drawing : ℕ → ℕ → List Drawn → List Line → Terminal
drawing r c content lines = record { row = r; column = c; style = plain; content = content; lines = lines }

abbrev line : ℕ → List RunView → Line
line r runs = record { row = r; column = 1; content = drawn_runs runs }

reads_row : (r : ℕ) (lines : List Line) (runs : List RunView) → list_any run_has_control runs ≡ false → Reads (at_text (drawing r 1 [] lines)) (row_text runs) (at_text (drawing r 1 (drawn_runs runs) (lines ++ line r runs ∷ [])))
reads_row r lines runs none =
    let drawn = drawing r 1 (drawn_runs runs) lines in
    let begin : Reads (at_text drawn) start (in_sequence [] 0 drawn) = record { is = refl } in
    let end : Reads (in_sequence [] 0 drawn) (codes "K") (at_text (drawing r 1 (drawn_runs runs) (lines ++ line r runs ∷ []))) = record { is = refl } in
    goes (goes (reads_runs runs (drawing r 1 [] lines) none) begin) end

-- a terminal without style, at a place
reads_place_off : (t : Terminal) (r c : ℕ) → t.style ≡ plain → 1 ≤ r → 1 ≤ c → r < 10 ^ 64 → c < 10 ^ 64 → Reads (at_text t) (place r c) (at_text (drawing r c [] t.lines))
reads_place_off t r c off one first small few =
    record { is = (reads_place t r c one first small few).is ∙ ap (λ (s : Style). at_text (record { row = r; column = c; style = s; content = []; lines = t.lines })) off }

reads_rows : (rows : List (Vec RunView)) (number r c : ℕ) (t : Terminal) → t.style ≡ plain → has_control rows ≡ false → 1 ≤ number → number + length rows < 10 ^ 64 → r + 1 < 10 ^ 64 → c + 1 < 10 ^ 64 → Reads (at_text t) (rows_text (place (r + 1) (c + 1)) number rows) (at_text (drawing (r + 1) (c + 1) [] (t.lines ++ lines_from number rows)))
reads_rows [] number r c t off none some few small narrow =
    record { is = (reads_place_off t (r + 1) (c + 1) off (omega arith) (omega arith) small narrow).is ∙ ap (λ (ls : List Line). at_text (drawing (r + 1) (c + 1) [] ls)) (sym (append-nil t.lines)) }
reads_rows (runs ∷ rows) number r c t off none some few small narrow =
    let parts = neither (row_has_control runs) (has_control rows) none in
    let ended = drawing number 1 (drawn_runs runs.items) (t.lines ++ line number runs.items ∷ []) in
    let at = reads_place_off t number 1 off some (omega arith) (omega (arith, few)) (omega arith) in
    let whole = goes (goes at (reads_row number t.lines runs.items parts.0)) (reads_rows rows (number + 1) r c ended refl parts.1 (omega arith) (omega (arith, few)) small narrow) in
    record { is = whole.is ∙ ap (λ (ls : List Line). at_text (drawing (r + 1) (c + 1) [] ls)) (append_assoc t.lines (line number runs.items ∷ []) (lines_from (number + 1) rows)) }

pub reads_frame : (rows : List (Vec RunView)) (r c : ℕ) → length rows + 1 < 10 ^ 64 → r + 1 < 10 ^ 64 → c + 1 < 10 ^ 64 → ReadsBack rows r c (frame_text rows r c)
reads_frame rows r c few small narrow t off none =
    let home = record t { row = 1; column = 1; content = [] } in
    let begin : Reads (at_text t) (start ++ codes "H") (at_text home) = record { is = refl } in
    (goes begin (reads_rows rows 1 r c home off none (omega arith) (omega (arith, few)) small narrow)).is

pub reads_back : {Z : Type 0} (s : String Z) (rows : List (Vec RunView)) (r c : ℕ) → string_bytes s ≡ frame rows r c → length rows + 1 < 10 ^ 64 → r + 1 < 10 ^ 64 → c + 1 < 10 ^ 64 → ReadsBack rows r c (chars (string_bytes s))
reads_back s rows r c is few small narrow t off none =
    ap (λ (cs : List ℕ). read (at_text t) cs) (sym (chars_from_encodes (frame_text rows r c) (string_bytes s) (IsUtf8-string_bytes s) (frame_bytes_same rows r c few small narrow ∙ sym is)))
    ∙ reads_frame rows r c few small narrow t off none
