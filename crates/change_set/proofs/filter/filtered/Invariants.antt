use Rattle.std.proofs.Common.{◌≡◌, ◌+◌, [], drop}
use Rattle.change_desc.specs.Sections.{spelled, normal, old_size}
use Rattle.change_set.specs.Protection.{half_from, taking}
use Rattle.change_set.specs.Protected.{HasEnded}
use Rattle.change_set.proofs.filter.filtered.Given as goal

-- what is put after, and what is left, are the whole
abbrev pub invariant-loop-section : goal.invariant-loop-section
invariant-loop-section l =
    record {
      level : l.at + old_size (drop l.section-index l.sections) ≡ l.by.len;
      ended : HasEnded l.by.ranges.now l.known l.at;
      is_normal : normal spelled l.done.items ≡ l.done.items;
      rest : half_from (taking l.by.half l.by.ranges.now l.by.len) l.done.items l.at (drop l.section-index l.sections) ≡ half_from (taking l.by.half l.by.ranges.now l.by.len) [] 0 l.sections;
    }
