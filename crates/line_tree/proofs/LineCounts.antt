-- How many lines there are.
use Rattle.std.proofs.Common.{◌≡◌, ℕ, ◌+◌, List, [], ◌∷◌, length, refl, ◌∙◌, arith}
use Rattle.std.proofs.lemmas.List.Splits.{length-slice_split}
use Rattle.line_tree.specs.Lines.{is_break, line_texts, numbered, lines_of}
use Rattle.line_tree.specs.Breaks.{count_breaks}

length-numbered : (lines : List (List ℕ)) (number from : ℕ) → length (numbered number from lines) ≡ length lines
length-numbered [] number from = refl
length-numbered (line ∷ lines) number from = omega (arith, length-numbered lines (number + 1) (from + length line + 1))

pub length-lines : (cs : List ℕ) → length (lines_of cs) ≡ count_breaks cs + 1
length-lines cs = length-numbered (line_texts cs) 1 0 ∙ length-slice_split is_break cs
