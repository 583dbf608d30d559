use Rattle.std.proofs.Common.{◌≡◌, ◌+◌, ◌≤◌, drop, length}
use Rattle.std.specs.Str.{chars}
use Rattle.line_tree.specs.Text.{cut, cut_after}
use Rattle.file_text.proofs.opening.cut_length.Given as goal

abbrev pub invariant-loop-c : goal.invariant-loop-c
invariant-loop-c l = record {
  few : l.len ≤ length l.yielded;
  rest : l.len + length (cut_after l.after_return (drop (length l.yielded) (chars l.string))) ≡ length (cut (chars l.string));
}
