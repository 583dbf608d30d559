use Rattle.std.proofs.Common.{◌≡◌, ◌+◌, ◌≤◌, drop, length}
use Rattle.line_tree.specs.Text.{cut_after, cut}
use Rattle.line_tree.proofs.text.cut_len.Given as goal

abbrev pub invariant-loop-c : goal.invariant-loop-c
invariant-loop-c l = (l.len ≤ l.c-index) × (l.len + length (cut_after l.after_return (drop l.c-index l.characters)) ≡ length (cut l.characters))
