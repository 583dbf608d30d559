use Rattle.std.proofs.Common.{◌≡◌, drop}
use Rattle.selection.specs.Selections.{LieIn, first_outside}
use Rattle.selection.proofs.selection.first_outside.Given as goal

abbrev pub invariant-loop-range : goal.invariant-loop-range
invariant-loop-range l =
    record {
      outside : first_outside l.len (drop l.range-index l.ranges) ≡ first_outside l.len l.ranges;
      inside : LieIn l.len (drop l.range-index l.ranges) → LieIn l.len l.ranges;
    }
