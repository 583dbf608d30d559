-- Lines with others in place of some of their characters, and some of the characters of a leaf.
use Rattle.std.proofs.Common.{◌≡◌, ℕ, ◌+◌, ◌-◌, ◌≤◌, List, [], ◌++◌, length, take, drop, ◌∙◌, ap, append_assoc, arith}
use Rattle.std.proofs.lemmas.List.{take_rest}
use Rattle.std.proofs.Math.Seq.{take-add}
use Rattle.line_tree.specs.Text.{replaced}
use Rattle.line_tree.specs.Breaks.{count_breaks}
use Rattle.line_tree.proofs.Counts.{count-append, count_parts}

pub put_together : (cs ins b0 b1 b2 b3 : List ℕ) (from to n : ℕ) → b0 ≡ [] → b1 ≡ b0 ++ take from (drop 0 cs) → b2 ≡ b1 ++ ins → b3 ≡ b2 ++ take n (drop to cs) → n ≡ length cs - to → b3 ≡ replaced from to ins cs
put_together cs ins b0 b1 b2 b3 from to n e0 e1 e2 e3 en =
    e3 ∙ ap (λ r. r ++ take n (drop to cs)) (e2 ∙ ap (λ r. r ++ ins) (e1 ∙ ap (λ r. r ++ take from (drop 0 cs)) e0))
    ∙ ap (λ r. (take from cs ++ ins) ++ r) (ap (λ k. take k (drop to cs)) en ∙ take_rest cs to) ∙ append_assoc (take from cs) ins (drop to cs)

pub part_count : (cs : List ℕ) (from n : ℕ) → count_breaks (take (from + n) cs) ≡ count_breaks (take from cs) + count_breaks (take n (drop from cs))
part_count cs from n = ap count_breaks (take-add from n cs) ∙ count-append (take from cs) (take n (drop from cs))

-- the breaks of the lines, with those of the others, and without those of the characters that these replace
pub replaced_count : (cs ins : List ℕ) (from to : ℕ) → from ≤ to → count_breaks (replaced from to ins cs) + count_breaks (take (to - from) (drop from cs)) ≡ count_breaks cs + count_breaks ins
replaced_count cs ins from to order =
    let to_is : from + (to - from) ≡ to = omega arith in
    omega (
      arith,
      count-append (take from cs) (ins ++ drop to cs),
      count-append ins (drop to cs),
      count_parts cs to,
      part_count cs from (to - from),
      ap (λ n. count_breaks (take n cs)) to_is,
    )

pub replaced_few : (cs ins : List ℕ) (from to : ℕ) → from ≤ to → count_breaks (replaced from to ins cs) ≤ count_breaks cs + count_breaks ins
replaced_few cs ins from to order = omega (arith, replaced_count cs ins from to order)
