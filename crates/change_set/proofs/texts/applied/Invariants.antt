use Rattle.std.proofs.Common.{◌≡◌, ◌+◌, ◌++◌, drop, length}
use Rattle.change_desc.specs.Sections.{spelled, apply, old_size, new_size}
use Rattle.change_set.proofs.texts.applied.Given as goal

-- what is written, and what the sections that are left give of the rest of the text, are all
abbrev pub invariant-loop-section : goal.invariant-loop-section
invariant-loop-section l =
    record {
      inside : old_size (drop l.section-index l.sections) ≡ length l.cursor;
      fits : length l.builder + new_size spelled (drop l.section-index l.sections) ≡ new_size spelled l.sections;
      gives : l.builder ++ apply (drop l.section-index l.sections) l.cursor ≡ apply l.sections l.document.characters;
    }
