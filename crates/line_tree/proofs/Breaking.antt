-- A text about one of its breaks.
use Rattle.std.proofs.Common.{◌≡◌, ℕ, ◌+◌, ◌-◌, List, ◌∷◌, ◌++◌, length, take, drop, sym, ◌∙◌, ap, arith}
use Rattle.std.proofs.lemmas.List.{take-append-drop, drop_more, take_all, length-drop}
use Rattle.line_tree.specs.Breaks.{count_breaks, IsBreakAt}
use Rattle.line_tree.proofs.Counts.{count-append, count-break}

-- the break, and the characters before and after it
pub record CutAt (cs : List ℕ) (before place : ℕ) : Type 0 where
  pub whole : cs ≡ take place cs ++ 10 ∷ drop (place + 1) cs
  pub first : count_breaks (take place cs) ≡ before
  pub second : count_breaks cs ≡ before + 1 + count_breaks (drop (place + 1) cs)
  pub rest : take (length cs - place - 1) (drop (place + 1) cs) ≡ drop (place + 1) cs

pub cut_at : (cs : List ℕ) (before place : ℕ) → IsBreakAt cs before place → CutAt cs before place
cut_at cs before place is =
    let whole : cs ≡ take place cs ++ 10 ∷ drop (place + 1) cs =
    sym (take-append-drop place cs) ∙ ap (λ r. take place cs ++ r) (drop_more cs place 0 is.within ∙ ap (λ c. c ∷ drop (place + 1) cs) is.there) in
    record {
      whole = whole;
      first = is.others;
      second = omega (arith, ap count_breaks whole, count-append (take place cs) (10 ∷ drop (place + 1) cs), count-break (drop (place + 1) cs), is.others);
      rest = take_all (length cs - place - 1) (drop (place + 1) cs) (omega (arith, length-drop (place + 1) cs));
    }
