use Rattle.std.proofs.Common.{◌≡◌, ◌++◌, drop, length}
use Rattle.change_desc.specs.Sections.{old_size}
use Rattle.change_set.specs.Places.{IsPlace, marks_at}
use Rattle.change_set.specs.Texts.{texts_between, kept_marks, unmarked}
use Rattle.change_set.proofs.texts.texts_between.Given as goal

-- what is written, and what is left, are all
abbrev pub invariant-loop-section : goal.invariant-loop-section
invariant-loop-section l =
    record {
      is_place : IsPlace l.back l.place;
      level : length (marks_at l.back l.place) ≡ old_size (drop l.section-index l.second);
      within : unmarked (marks_at l.back l.place) ≡ length l.cursor;
      gives : l.builder ++ texts_between (marks_at l.back l.place) l.cursor (drop l.section-index l.second) ≡
          texts_between (kept_marks l.back) l.first.characters l.second;
    }
