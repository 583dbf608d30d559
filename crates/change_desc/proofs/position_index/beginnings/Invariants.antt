use Rattle.std.proofs.Common.{◌≡◌, All}
use Rattle.change_desc.specs.Index.{ArePassed}
use Rattle.change_desc.proofs.position_index.beginnings.Given as goal

abbrev pub invariant-loop-section : goal.invariant-loop-section
invariant-loop-section l = record {
  all : All (ArePassed l.sections) l.all.items;
  passed : ArePassed l.sections l.passed;
  count : l.passed.count ≡ l.section-index;
}
