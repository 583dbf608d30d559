use Rattle.std.proofs.Common.{◌≡◌, drop}
use Rattle.change_desc.specs.Meeting.{BeginAfter, some_meet}
use Rattle.change_desc.proofs.meeting.some_meet.Given as goal

abbrev pub invariant-loop-range : goal.invariant-loop-range
invariant-loop-range l = record {
  goes : some_meet (drop l.range-index l.ranges) l.rest ≡ some_meet l.ranges l.others;
  order : BeginAfter 0 (drop l.range-index l.ranges);
  left : BeginAfter 0 l.rest;
}
