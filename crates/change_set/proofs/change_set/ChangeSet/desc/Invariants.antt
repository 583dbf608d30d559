use Rattle.std.proofs.Common.{◌≡◌, ◌+◌, ◌++◌, drop}
use Rattle.change_desc.specs.Sections.{spelled, counted, normal, lengths, old_size, new_size}
use Rattle.change_set.proofs.change_set.ChangeSet.desc.Given as goal

-- what is measured, and what is left, are the whole
abbrev pub invariant-loop-section : goal.invariant-loop-section
invariant-loop-section l =
    record {
      gives : normal counted (l.desc ++ lengths spelled (drop l.section-index l.section-items)) ≡ lengths spelled l.section-items;
      is_normal : normal counted l.desc ≡ l.desc;
      old : old_size l.desc + old_size (drop l.section-index l.section-items) ≡ old_size l.section-items;
      new : new_size counted l.desc + new_size spelled (drop l.section-index l.section-items) ≡ new_size spelled l.section-items;
    }
