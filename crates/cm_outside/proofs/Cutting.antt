-- Cutting a buffer at its first LF.
use Rattle.std.proofs.Common.{◌≡◌, ℕ, suc, ◌-◌, ◌+◌, ◌<◌, List, ◌∷◌, ◌++◌, length, get_or, take, drop, drop-cons, ap, subst, ◌∙◌, arith}
use Rattle.std.proofs.lemmas.List.{drop-drop, drop-take, length-drop, length-take}
use Rattle.cm_outside.specs.Lines.{HasNoBreak}
use Rattle.cm_outside.specs.Filling.{CutsLine}

after_break : (buffer : List ℕ) (from to at : ℕ) → at < length (take (to - from) (drop from buffer)) → drop (at + 1) (take (to - from) (drop from buffer)) ≡ take (to - (from + (at + 1))) (drop (from + (at + 1)) buffer)
after_break buffer from to at h =
    let within : at < to - from = omega (arith, h, length-take (to - from) (drop from buffer)) in
    let total : to - from ≡ (at + 1) + (to - (from + (at + 1))) = omega arith in
    ap (λ n. drop (at + 1) (take n (drop from buffer))) total ∙ drop-take (at + 1) (to - (from + (at + 1))) (drop from buffer) ∙ ap (take (to - (from + (at + 1)))) (drop-drop (at + 1) from buffer)

pub cut_at : (line new_line buffer bytes rest part : List ℕ) (from to at : ℕ) → bytes ≡ buffer → rest ≡ take (to - from) (drop from buffer)
    → (at < length (take (to - from) (drop from bytes))) × HasNoBreak (take at (take (to - from) (drop from bytes))) × (take (to - from) (drop from bytes) ≡ take at (take (to - from) (drop from bytes)) ++ 10 ∷ drop (at + 1) (take (to - from) (drop from bytes)))
    → part ≡ take at (take (to - from) (drop from bytes)) → new_line ≡ take 1048577 (line ++ part)
    → CutsLine line new_line rest (take (to - (from + (at + 1))) (drop (from + (at + 1)) buffer))
cut_at line new_line buffer bytes rest part from to at same is_rest found is_part kept =
    let ready = take (to - from) (drop from buffer) in
    let f : (at < length ready) × HasNoBreak (take at ready) × (ready ≡ take at ready ++ 10 ∷ drop (at + 1) ready) =
    subst (λ b. (at < length (take (to - from) (drop from b))) × HasNoBreak (take at (take (to - from) (drop from b))) × (take (to - from) (drop from b) ≡ take at (take (to - from) (drop from b)) ++ 10 ∷ drop (at + 1) (take (to - from) (drop from b)))) same found in
    record {
      part = take at ready;
      one = f.1;
      bytes = is_rest ∙ f.2 ∙ ap (λ r. take at ready ++ 10 ∷ r) (after_break buffer from to at f.0);
      kept = kept ∙ ap (λ p. take 1048577 (line ++ p)) (is_part ∙ ap (λ b. take at (take (to - from) (drop from b))) same);
    }

-- the first of the bytes that stand ready, and those after it
pub first_ready : (buffer : List ℕ) (from to : ℕ) → 0 < length (take (to - from) (drop from buffer))
    → take (to - from) (drop from buffer) ≡ get_or buffer from 0 ∷ take (to - (from + 1)) (drop (from + 1) buffer)
first_ready buffer from to h =
    let some : 0 < (to - from) = omega (arith, h, length-take (to - from) (drop from buffer)) in
    let within : from < length buffer = omega (arith, h, length-take (to - from) (drop from buffer), length-drop from buffer) in
    let total : to - from ≡ suc (to - (from + 1)) = omega arith in
    let next : suc from ≡ from + 1 = omega arith in
    ap (λ n. take n (drop from buffer)) total ∙ ap (take (suc (to - (from + 1)))) (drop-cons buffer from 0 within ∙ ap (λ n. get_or buffer from 0 ∷ drop n buffer) next)
