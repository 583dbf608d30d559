use Rattle.std.proofs.Common.{◌≡◌, ◌≤◌, ◌+◌, ◌-◌, length, drop, take}
use Rattle.change_set.specs.Places.{IsPlace, marks_at}
use Rattle.change_set.specs.Texts.{marked}
use Rattle.change_set.proofs.place.Place.pass.Given as goal

-- what is counted, and what is left of the characters, are the whole
abbrev pub invariant-walk : goal.invariant-walk
invariant-walk l =
    record {
      is_place : IsPlace l.sections l.place;
      within : l.rest ≤ length (marks_at l.sections l.place);
      left : drop l.rest (marks_at l.sections l.place) ≡ drop l.count (marks_at l.sections l.fn.self);
      kept : l.kept + marked (take l.rest (marks_at l.sections l.place)) ≡ marked (take l.count (marks_at l.sections l.fn.self));
      most : l.kept + l.rest ≤ l.count;
    }

abbrev pub decreases-walk : goal.decreases-walk
decreases-walk l = l.rest + (length l.sections - l.place.index)
