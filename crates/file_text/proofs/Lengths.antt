-- How long a text is that is cut at CRLF, CR and LF, character by character.
use Rattle.std.proofs.Common.{◌≡◌, ℕ, ◌+◌, ◌<◌, Bool, true, false, cond, List, ◌∷◌, length, get_or, drop, refl, sym, ◌∙◌, ap, arith}
use Rattle.std.specs.Prelude.{◌==◌, ◌&&◌}
use Rattle.std.proofs.lemmas.Bool.{eqb-true}
use Rattle.std.proofs.lemmas.List.{at_drop_more}
use Rattle.line_tree.specs.Text.{cut_after}

-- a character counts one, unless it is the LF of a CRLF
cut_first : (was : Bool) (c : ℕ) (rest : List ℕ) → length (cut_after was (c ∷ rest)) ≡ cond ((c == 10) && was) 0 1 + length (cut_after (c == 13) rest)
cut_first was c rest = at (c == 13) (c == 10) was (λ e. ap (λ x. x == 10) (eqb-true c 13 e)) where
  at : (returns feeds w : Bool) → (returns ≡ true → feeds ≡ false)
      → length (cond returns (10 ∷ cut_after true rest) (cond (feeds && w) (cut_after false rest) (c ∷ cut_after false rest))) ≡ cond (feeds && w) 0 1 + length (cut_after returns rest)
  at true true w h = absurd (let both : true ≡ false = h refl in cc)
  at true false w h = omega arith
  at false true true h = omega arith
  at false true false h = omega arith
  at false false w h = omega arith

pub cut_step : (was : Bool) (cs : List ℕ) (i c : ℕ) → i < length cs → c ≡ get_or cs i c
    → length (cut_after was (drop i cs)) ≡ cond ((c == 10) && was) 0 1 + length (cut_after (c == 13) (drop (i + 1) cs))
cut_step was cs i c l e =
    at_drop_more (λ r. length (cut_after was r)) cs i c l ∙ ap (λ x. length (cut_after was (x ∷ drop (i + 1) cs))) (sym e) ∙ cut_first was c (drop (i + 1) cs)
