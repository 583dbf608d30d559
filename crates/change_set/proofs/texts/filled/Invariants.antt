use Rattle.std.proofs.Common.{◌≡◌, ◌++◌, drop, length}
use Rattle.change_set.specs.Texts.{filled, text_total}
use Rattle.change_set.proofs.texts.filled.Given as goal

-- what is filled, and what is left, are all
abbrev pub invariant-loop-section : goal.invariant-loop-section
invariant-loop-section l =
    record {
      inside : text_total (drop l.section-index l.lengths) ≡ length l.cursor;
      gives : l.sections.items ++ filled (drop l.section-index l.lengths) l.cursor ≡ filled l.lengths l.text.characters;
    }
