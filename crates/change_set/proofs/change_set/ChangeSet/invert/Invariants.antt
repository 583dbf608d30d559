use Rattle.std.proofs.Common.{◌≡◌, ◌++◌, drop, length}
use Rattle.change_desc.specs.Sections.{invert, old_size}
use Rattle.change_set.proofs.change_set.ChangeSet.invert.Given as goal

-- what is turned round, and what is left, are all
abbrev pub invariant-loop-section : goal.invariant-loop-section
invariant-loop-section l =
    record {
      inside : old_size (drop l.section-index l.section-items) ≡ length l.cursor;
      gives : l.sections.items ++ invert (drop l.section-index l.section-items) l.cursor ≡ invert l.section-items l.document.characters;
    }
