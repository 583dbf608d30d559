-- Characters and then others: what is known of each, told of both.
use Rattle.std.proofs.Common.{◌≡◌, ℕ, ◌+◌, ◌-◌, ◌≤◌, List, ◌++◌, length, take, drop, sym, ◌∙◌, ap, arith, length-append}
use Rattle.std.proofs.lemmas.List.{take-append-le, drop-append-le, length-drop, get_or-append-add, get_or_append_left}
use Rattle.line_tree.specs.Breaks.{count_breaks, IsBreakAt}
use Rattle.line_tree.proofs.Counts.{count-append, count_parts}
use Rattle.line_tree.proofs.Inside.{take_past, drop_past}

pub count_rest : (a b : List ℕ) (n : ℕ) → length a ≤ n → count_breaks (take n (a ++ b)) + count_breaks (drop (n - length a) b) ≡ count_breaks (a ++ b)
count_rest a b n low = omega (arith, count_parts (a ++ b) n, ap count_breaks (drop_past a b n low))

pub count_first : (a b : List ℕ) (n : ℕ) → n ≤ length a → count_breaks (take n (a ++ b)) ≡ count_breaks (take n a)
count_first a b n high = ap count_breaks (take-append-le n a b high)

pub break_first : (a b : List ℕ) (k q : ℕ) → IsBreakAt a k q → IsBreakAt (a ++ b) k q
break_first a b k q is = record {
  within = omega (arith, is.within, length-append a b);
  there = get_or_append_left a b 0 q is.within ∙ is.there;
  others = count_first a b q (omega (arith, is.within)) ∙ is.others;
}

pub break_second : (a b : List ℕ) (k q : ℕ) → IsBreakAt b k q → IsBreakAt (a ++ b) (count_breaks a + k) (length a + q)
break_second a b k q is =
    let offset : length a + q - length a ≡ q = omega arith in
    record {
      within = omega (arith, is.within, length-append a b);
      there = get_or-append-add a b q 0 ∙ is.there;
      others = ap count_breaks (take_past a b (length a + q) (omega arith)) ∙ count-append a (take (length a + q - length a) b) ∙ ap (λ n. count_breaks a + count_breaks (take n b)) offset
          ∙ ap (λ n. count_breaks a + n) is.others;
    }

pub run_first : (a b run : List ℕ) (n : ℕ) → run ≡ take (length run) (drop n a) → n + length run ≤ length a → (run ≡ take (length run) (drop n (a ++ b))) × (n + length run ≤ length (a ++ b))
run_first a b run n is short = (
  is ∙ sym (ap (take (length run)) (drop-append-le n a b (omega (arith, short))) ∙ take-append-le (length run) (drop n a) b (omega (arith, short, length-drop n a))),
  omega (arith, short, length-append a b),
)

pub run_second : (a b run : List ℕ) (n : ℕ) → length a ≤ n → run ≡ take (length run) (drop (n - length a) b) → n - length a + length run ≤ length b → (run ≡ take (length run) (drop n (a ++ b))) × (n + length run ≤ length (a ++ b))
run_second a b run n low is short = (is ∙ sym (ap (take (length run)) (drop_past a b n low)), omega (arith, low, short, length-append a b))
