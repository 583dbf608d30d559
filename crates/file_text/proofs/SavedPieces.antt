-- What characters are saved as, piece by piece.
use Rattle.std.proofs.Common.{◌≡◌, ℕ, ◌+◌, ◌-◌, ◌<◌, ◌≤◌, List, [], ◌∷◌, ◌++◌, length, get_or, take, sym, ◌∙◌, ap, arith}
use Rattle.std.specs.Prelude.{encode_utf8_all}
use Rattle.std.proofs.Math.Seq.{take-add}
use Rattle.std.proofs.lemmas.Str.{encodes-append}
use Rattle.std.proofs.lemmas.List.{take_more}
use Rattle.std.proofs.lemmas.List.Concat.{flat_map-append}
use Rattle.line_tree.specs.Text.{slice}
use Rattle.file_text.specs.Files.{saved_char, saved_chars, saved_bytes}

pub saved-append : (separator a b : List ℕ) → saved_bytes separator (a ++ b) ≡ saved_bytes separator a ++ saved_bytes separator b
saved-append separator a b = ap encode_utf8_all (flat_map-append (saved_char separator) a b) ∙ encodes-append (saved_chars separator a) (saved_chars separator b)

-- one character more
pub saved_more : (separator cs : List ℕ) (i c : ℕ) → i < length cs → c ≡ get_or cs i c → saved_bytes separator (take (i + 1) cs) ≡ saved_bytes separator (take i cs) ++ saved_bytes separator (c ∷ [])
saved_more separator cs i c l e = ap (saved_bytes separator) (take_more cs i c l ∙ ap (λ d. take i cs ++ d ∷ []) (sym e)) ∙ saved-append separator (take i cs) (c ∷ [])

-- the characters up to a later place
pub saved_slice : (separator cs : List ℕ) (from to : ℕ) → from ≤ to → saved_bytes separator (take to cs) ≡ saved_bytes separator (take from cs) ++ saved_bytes separator (slice from to cs)
saved_slice separator cs from to order =
    let there : to ≡ from + (to - from) = omega arith in
    ap (λ n. saved_bytes separator (take n cs)) there ∙ ap (saved_bytes separator) (take-add from (to - from) cs) ∙ saved-append separator (take from cs) (slice from to cs)
