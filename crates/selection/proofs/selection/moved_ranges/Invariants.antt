use Rattle.std.proofs.Common.{◌≡◌, map, take, drop}
use Rattle.change_desc.specs.Sections.{old_size}
use Rattle.selection.specs.Ranges.{moved_range}
use Rattle.selection.specs.Selections.{LieIn}
use Rattle.selection.proofs.Apart.{Follow}
use Rattle.selection.proofs.selection.moved_ranges.Given as goal

abbrev pub invariant-loop-range : goal.invariant-loop-range
invariant-loop-range l =
    record {
      moved : l.moved.items ≡ map (moved_range l.changes) (take l.range-index l.ranges);
      inside : LieIn (old_size l.changes) (drop l.range-index l.ranges);
      over : l.walker.desc ≡ l.changes;
      follow : Follow l.walker.reached (drop l.range-index l.ranges);
    }
