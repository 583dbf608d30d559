use Rattle.std.proofs.Common.{◌≡◌, ◌≤◌, drop}
use Rattle.change_desc.specs.Sections.{counted, old_size}
use Rattle.change_desc.specs.Positions.{is_lost}
use Rattle.change_desc.proofs.positions.is_lost.Given as goal

-- the sections that are left decide over what is left of the position
abbrev pub invariant-loop-section : goal.invariant-loop-section
invariant-loop-section l =
    record {
      inside : l.rest ≤ old_size (drop l.section-index l.sections);
      says : is_lost counted l.mode l.pos l.sections ≡ is_lost counted l.mode l.rest (drop l.section-index l.sections);
    }
