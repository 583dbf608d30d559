use Rattle.std.proofs.Common.{◌≡◌, ◌≤◌, ◌<◌, ◌+◌, ◌^◌, drop}
use Rattle.change_desc.specs.Sections.{counted, old_size, new_size}
use Rattle.change_desc.specs.Positions.{moved, cuts}
use Rattle.change_desc.specs.Steps.{plus}
use Rattle.change_desc.proofs.positions.place.Given as goal

-- the position goes where what is left of it goes over the sections that are left
abbrev pub invariant-loop-section : goal.invariant-loop-section
invariant-loop-section l =
    record {
      inside : l.rest ≤ old_size (drop l.section-index l.sections);
      fits : l.new + new_size counted (drop l.section-index l.sections) < 2 ^ 32;
      goes : moved l.negative l.pos (cuts counted l.sections) ≡ plus l.new (moved l.negative l.rest (cuts counted (drop l.section-index l.sections)));
    }
