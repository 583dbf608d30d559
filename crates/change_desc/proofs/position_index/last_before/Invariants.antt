use Rattle.std.proofs.Common.{◌-◌, ◌≤◌, length}
use Rattle.change_desc.specs.Walker.{IsPassed}
use Rattle.change_desc.proofs.position_index.last_before.Given as goal

abbrev pub invariant-loop-low : goal.invariant-loop-low
invariant-loop-low l = record {
  last : IsPassed l.sections l.last l.place;
  high : l.high ≤ length l.beginnings;
}

abbrev pub decreases-loop-low : goal.decreases-loop-low
decreases-loop-low l = l.high - l.low
