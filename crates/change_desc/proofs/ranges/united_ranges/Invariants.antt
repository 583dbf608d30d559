use Rattle.std.proofs.Common.{◌≡◌, ◌+◌, ◌<◌, ◌^◌, ◌++◌, drop}
use Rattle.change_desc.specs.Sections.{counted, old_size, new_size}
use Rattle.change_desc.specs.Ranges.{replaced_from, replaced, united}
use Rattle.change_desc.specs.Steps.{listed}
use Rattle.change_desc.proofs.ranges.united_ranges.Given as goal

abbrev pub invariant-loop-section : goal.invariant-loop-section
invariant-loop-section l =
    record {
      goes : l.ranges.items ++ united (listed l.growing ++ replaced_from l.a l.b (drop l.section-index l.sections)) ≡ united (replaced l.sections);
      old : l.a + old_size (drop l.section-index l.sections) < 2 ^ 32;
      new : l.b + new_size counted (drop l.section-index l.sections) < 2 ^ 32;
    }
