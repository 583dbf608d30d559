use Rattle.std.proofs.Common.{◌≡◌, ◌+◌, drop}
use Rattle.change_desc.specs.Columns.{along_old}
use Rattle.change_desc.specs.Sections.{spelled, old_size, new_size}
use Rattle.change_set.specs.Protected.{HasEnded}
use Rattle.change_set.specs.Protection.{pieced, taking}
use Rattle.change_set.proofs.filter_len.half_len.Given as goal

-- what is counted, and what is left, are all
abbrev pub invariant-loop-section : goal.invariant-loop-section
invariant-loop-section l =
    record {
      level : l.at + old_size (drop l.section-index l.sections) ≡ l.by.len;
      ended : HasEnded l.by.ranges.now l.known l.at;
      sum : l.sum + new_size spelled (pieced (taking l.by.half l.by.ranges.now l.by.len) l.at (along_old spelled (drop l.section-index l.sections))) ≡
          new_size spelled (pieced (taking l.by.half l.by.ranges.now l.by.len) 0 (along_old spelled l.sections));
    }
