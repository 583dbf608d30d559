use Rattle.std.proofs.Common.{◌≡◌, ◌+◌, ◌<◌, ◌^◌, ◌++◌, drop}
use Rattle.change_desc.specs.Sections.{counted, old_size, new_size}
use Rattle.change_desc.specs.Ranges.{replaced_from, replaced}
use Rattle.change_desc.proofs.ranges.individual_ranges.Given as goal

abbrev pub invariant-loop-section : goal.invariant-loop-section
invariant-loop-section l =
    record {
      goes : l.ranges.items ++ replaced_from l.a l.b (drop l.section-index l.sections) ≡ replaced l.sections;
      old : l.a + old_size (drop l.section-index l.sections) < 2 ^ 32;
      new : l.b + new_size counted (drop l.section-index l.sections) < 2 ^ 32;
    }
