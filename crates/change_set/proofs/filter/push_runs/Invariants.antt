use Rattle.std.proofs.Common.{◌≡◌, ◌≤◌, ◌-◌, ℕ, List}
use Rattle.change_desc.specs.declared.section.Section.{Section}
use Rattle.change_desc.specs.Sections.{spelled, normal}
use Rattle.change_set.specs.Protection.{half_within, taking}
use Rattle.change_set.specs.Protected.{HasEnded}
use Rattle.change_set.proofs.filter.push_runs.Given as goal

-- what is put after, and what is left, are the whole
abbrev pub invariant-runs : goal.invariant-runs
invariant-runs l =
    record {
      from : l.from ≤ l.pos;
      order : l.pos ≤ l.end;
      ended : HasEnded l.by.ranges.now l.count l.pos;
      is_normal : normal spelled l.done.items ≡ l.done.items;
      rest : (s : List (Section (List ℕ))) → half_within (taking l.by.half l.by.ranges.now l.by.len) l.done.items l.pos (l.end - l.pos) s ≡ half_within (taking l.by.half l.by.ranges.now l.by.len) l.fn.done.items l.from (l.end - l.from) s;
    }

abbrev pub decreases-runs : goal.decreases-runs
decreases-runs l = l.end - l.pos
