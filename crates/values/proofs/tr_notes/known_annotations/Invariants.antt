use Rattle.std.proofs.Common.{take}
use Rattle.std.specs.List.{AllByRecursion}
use Rattle.values.specs.InRange.{IsNoteInRange}
use Rattle.values.proofs.tr_notes.known_annotations.Given as goal

abbrev pub invariant-loop-annotation : goal.invariant-loop-annotation
invariant-loop-annotation l = AllByRecursion IsNoteInRange (take l.annotation-index l.annotations)
