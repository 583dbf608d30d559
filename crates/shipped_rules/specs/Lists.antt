-- Lines by their numbers and their lengths, and the items of a list as values.
use Rattle.std.specs.Prelude.{◌≡◌, ℕ, zero, suc, ◌+◌, ◌-◌, pos, List, [], ◌∷◌, ◌++◌, map, take, length, slice_get, Some, refl}
use Rattle.std.proofs.Common.{arith, ap, ◌∙◌}
use Rattle.cm_plain.specs.Plain.{datum_of}
use Rattle.cm_plain.specs.declared.plain.Plain.{Plain as PlainData}
use Rattle.line_tree.specs.declared.line.Line.{Line}
use Rattle.line_tree.specs.Lines.{line_texts, lines_of, numbered}
use Rattle.values.specs.declared.val.Val.{Val}
use Rattle.values.specs.declared.val.Val.TheVariants.{Plain}
use Rattle.values.specs.Reading.{int, value_of, value-datum}

-- the length of a line as a value
abbrev pub width : Line → Val
width line = int (pos (line.to - line.from))

widths : (number from : ℕ) (lines : List (List ℕ)) → map width (numbered number from lines) ≡ map (λ line. int (pos (length line))) lines
widths number from [] = refl
widths number from (line ∷ lines) =
    let e : from + length line - from ≡ length line = omega arith in
    let f = widths (number + 1) (from + length line + 1) lines in
    cc

pub line-widths : (text : List ℕ) → map width (lines_of text) ≡ map (λ line. int (pos (length line))) (line_texts text)
line-widths text = widths 1 0 (line_texts text)

next-taken : {X : Type 0} (xs : List X) (k : ℕ) (x : X) → slice_get xs k ≡ Some x → take (suc k) xs ≡ take k xs ++ x ∷ []
next-taken [] k x h = cc
next-taken (y ∷ ys) zero x h = cc
next-taken (y ∷ ys) (suc k) x h = ap (λ zs. y ∷ zs) (next-taken ys k x h)

pub take-next : {X : Type 0} (xs : List X) (k : ℕ) (x : X) → slice_get xs k ≡ Some x → take (k + 1) xs ≡ take k xs ++ x ∷ []
take-next xs k x h = let e : k + 1 ≡ suc k = omega arith in ap (λ n. take n xs) e ∙ next-taken xs k x h

pub plain-values : (ps : List PlainData) → map (λ d. Plain (value_of d)) (map datum_of ps) ≡ map Plain ps
plain-values [] = refl
plain-values (p ∷ ps) =
    let e = value-datum p in
    let f = plain-values ps in
    cc
