-- Counts of breaks.
use Rattle.std.proofs.Common.{◌≡◌, ℕ, ◌+◌, ◌≤◌, List, ◌∷◌, ◌++◌, length, take, drop, cond, sym, ◌∙◌, ap, arith}
use Rattle.std.proofs.lemmas.List.{take-append-drop}
use Rattle.std.proofs.lemmas.List.Sums.{count_by-le-length, sum_by-append, sum_by-cons}
use Rattle.line_tree.specs.Lines.{is_break}
use Rattle.line_tree.specs.Breaks.{count_breaks}

pub count-cons : (c : ℕ) (cs : List ℕ) → count_breaks (c ∷ cs) ≡ cond (is_break c) 1 0 + count_breaks cs
count-cons c cs = sum_by-cons (λ x. cond (is_break x) 1 0) c cs

pub count-append : (a b : List ℕ) → count_breaks (a ++ b) ≡ count_breaks a + count_breaks b
count-append a b = sum_by-append (λ c. cond (is_break c) 1 0) a b

pub count-break : (b : List ℕ) → count_breaks (10 ∷ b) ≡ count_breaks b + 1
count-break b = omega (arith, count-cons 10 b)

pub count_le : (cs : List ℕ) → count_breaks cs ≤ length cs
count_le cs = count_by-le-length is_break cs

pub count_parts : (cs : List ℕ) (n : ℕ) → count_breaks cs ≡ count_breaks (take n cs) + count_breaks (drop n cs)
count_parts cs n = ap count_breaks (sym (take-append-drop n cs)) ∙ count-append (take n cs) (drop n cs)

pub count_take : (cs : List ℕ) (n : ℕ) → count_breaks (take n cs) ≤ count_breaks cs
count_take cs n = omega (arith, count_parts cs n)

pub count_drop : (cs : List ℕ) (n : ℕ) → count_breaks (drop n cs) ≤ count_breaks cs
count_drop cs n = omega (arith, count_parts cs n)
