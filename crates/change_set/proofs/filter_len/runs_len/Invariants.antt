use Rattle.std.proofs.Common.{◌≡◌, ◌+◌, ◌-◌, ◌≤◌}
use Rattle.change_desc.specs.Columns.{along_old, follows, times}
use Rattle.change_desc.specs.Sections.{Sections, spelled, new_size}
use Rattle.change_set.specs.Protected.{HasEnded}
use Rattle.change_set.specs.Protection.{pieced, taking}
use Rattle.change_set.proofs.filter_len.runs_len.Given as goal

-- what is counted, and what is left, are all
abbrev pub invariant-runs : goal.invariant-runs
invariant-runs l =
    record {
      from : l.from ≤ l.pos;
      order : l.pos ≤ l.end;
      ended : HasEnded l.by.ranges.now l.count l.pos;
      few : l.sum ≤ l.pos - l.from;
      sum : (s : Sections) → l.sum + new_size spelled (pieced (taking l.by.half l.by.ranges.now l.by.len) l.pos (times spelled (l.end - l.pos) follows (along_old spelled s))) ≡
          new_size spelled (pieced (taking l.by.half l.by.ranges.now l.by.len) l.from (times spelled (l.end - l.from) follows (along_old spelled s)));
    }

abbrev pub decreases-runs : goal.decreases-runs
decreases-runs l = l.end - l.pos
