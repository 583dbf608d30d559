use Rattle.std.proofs.Common.{◌≡◌, ◌+◌, drop}
use Rattle.selection.specs.Selections.{main_of}
use Rattle.selection.proofs.marked.main_of.Given as goal

abbrev pub invariant-loop-mark : goal.invariant-loop-mark
invariant-loop-mark l = record { goes : l.index + main_of (drop l.mark-index l.marks) ≡ main_of l.marks; at : l.index ≡ l.mark-index }
