use Rattle.std.proofs.Common.{◌≡◌, ℕ, ◌≤◌, length}
use Rattle.std.specs.List.{list_any}
use Rattle.change_desc.specs.Meeting.{BeginAfter}
use Rattle.change_desc.specs.Ranges.{meets}
use Rattle.change_desc.proofs.meeting.ranges_from.Given as goal

abbrev pub invariant-loop-first : goal.invariant-loop-first
invariant-loop-first l = record {
  same : (a b : ℕ) → l.place ≤ a → list_any (meets a b) l.rest ≡ list_any (meets a b) l.ranges;
  order : BeginAfter 0 l.rest;
}

abbrev pub decreases-loop-first : goal.decreases-loop-first
decreases-loop-first l = length l.rest
