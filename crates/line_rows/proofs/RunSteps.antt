-- One cell further in the runs of a row.
use Rattle.std.proofs.Common.{◌≡◌, ℕ, ◌+◌, ◌<◌, ◌≤◌, arith, Bool, true, false, List, [], ◌∷◌, ◌++◌, length, take, get_or, refl, sym, ap, ◌∙◌, append_assoc, if◌then◌else◌}
use Rattle.std.proofs.lemmas.List.{take_more}
use Rattle.std.specs.Prelude.{encode_utf8_all, String}
use Rattle.std.specs.Str.{chars}
use Rattle.std.specs.String.{string_bytes}
use Rattle.std.proofs.lemmas.Str.{encodes-append, encodes-chars, IsUtf8-string_bytes}
use Rattle.cells.proofs.Layouts.{chars-from_bytes}
use Rattle.pieces.specs.Styles.{same_style}
use Rattle.line_rows.specs.declared.rows.StyledCell.{StyledCell}
use Rattle.line_rows.specs.Run.{RunView, is_bare, joined_from, longer, onto_kept, run_of, trimmed}

-- characters added to a text
pub text_more : {Z : Type 0} (before after : String Z) (cs : List ℕ) → string_bytes after ≡ string_bytes before ++ encode_utf8_all cs → chars (string_bytes after) ≡ chars (string_bytes before) ++ cs
text_more before after cs is =
    chars-from_bytes after (chars (string_bytes before) ++ cs)
    (is ∙ (ap (λ (b : List ℕ). b ++ encode_utf8_all cs) (sym (encodes-chars (string_bytes before) (IsUtf8-string_bytes before))) ∙ sym (encodes-append (chars (string_bytes before)) cs)))

-- a cell of the same style is part of the run
pub same_run : (run now : RunView) (c : StyledCell) (cs : List StyledCell) → same_style c.style run.style ≡ true → now ≡ longer run c → joined_from now cs ≡ joined_from run (c ∷ cs)
unfolding joined_from
same_run run now c cs same is = rw (is, same) refl

-- a cell of another style begins a run
pub next_run : (run now : RunView) (c : StyledCell) (cs : List StyledCell) (runs more : List RunView) → same_style c.style run.style ≡ false → now ≡ run_of c → more ≡ runs ++ run ∷ [] → more ++ joined_from now cs ≡ runs ++ joined_from run (c ∷ cs)
unfolding joined_from
next_run run now c cs runs more other is adds = rw (adds, is, other) (append_assoc runs (run ∷ []) (joined_from (run_of c) cs))

pub runs_end : (run : RunView) (left : List StyledCell) (runs more all : List RunView) → left ≡ [] → more ≡ runs ++ run ∷ [] → runs ++ joined_from run left ≡ all → more ≡ all
unfolding joined_from
runs_end run left runs more all none adds goes = adds ∙ (rw none at goes)

trimmed-put : (c : StyledCell) (b : Bool) → is_bare c ≡ b → trimmed (c ∷ []) ≡ (if b then [] else c ∷ [])
unfolding trimmed
trimmed-put c b is = rw is refl

-- a cell after others: a bare one adds nothing, and another one keeps all
trimmed-bare : (cs : List StyledCell) (c : StyledCell) → is_bare c ≡ true → trimmed (cs ++ c ∷ []) ≡ trimmed cs
unfolding trimmed
trimmed-bare [] c bare = rw bare refl
trimmed-bare (d ∷ ds) c bare = ap (onto_kept d) (trimmed-bare ds c bare)

-- cells before kept ones are kept
onto-some : (d x : StyledCell) (xs : List StyledCell) → onto_kept d (x ∷ xs) ≡ d ∷ x ∷ xs
onto-some d x xs = refl

trimmed-shown : (cs : List StyledCell) (c : StyledCell) → is_bare c ≡ false → trimmed (cs ++ c ∷ []) ≡ cs ++ c ∷ []
unfolding trimmed
trimmed-shown [] c shown = rw shown refl
trimmed-shown (d ∷ []) c shown = rw shown refl
trimmed-shown (d ∷ e ∷ es) c shown = ap (onto_kept d) (trimmed-shown (e ∷ es) c shown)

-- one cell further up to the last that is shown
pub trim_step : (cells : List StyledCell) (i len now : ℕ) (c : StyledCell) → i < length cells → c ≡ get_or cells i c → now ≡ (if is_bare c then len else i + 1) → take len cells ≡ trimmed (take i cells) → take now cells ≡ trimmed (take (i + 1) cells)
trim_step cells i len now c inside is then_is done = by (is_bare c) refl where
  more : take (i + 1) cells ≡ take i cells ++ c ∷ []
  more = take_more cells i c inside ∙ ap (λ (x : StyledCell). take i cells ++ x ∷ []) (sym is)

  by : (b : Bool) → is_bare c ≡ b → take now cells ≡ trimmed (take (i + 1) cells)
  by true bare =
      let same : now ≡ len = then_is ∙ ap (λ (b : Bool). if b then len else i + 1) bare in
      rw (same, more, trimmed-bare (take i cells) c bare) done
  by false shown =
      let same : now ≡ i + 1 = then_is ∙ ap (λ (b : Bool). if b then len else i + 1) shown in
      rw (same, more, trimmed-shown (take i cells) c shown) refl

pub trim_bound : (b : Bool) (len now i : ℕ) → len ≤ i → now ≡ (if b then len else i + 1) → now ≤ i + 1
trim_bound true len now i small is = omega arith
trim_bound false len now i small is = omega arith

pub trim_begin : (cells : List StyledCell) → take 0 cells ≡ trimmed (take 0 cells)
unfolding trimmed
trim_begin cells = refl
