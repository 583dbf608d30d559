use Rattle.std.proofs.Common.{◌≡◌, drop}
use Rattle.change_set.specs.Same.{same_sections}
use Rattle.change_set.proofs.sections.same_sections.Given as goal

-- the sections that are left decide
abbrev pub invariant-loop-index : goal.invariant-loop-index
invariant-loop-index l = same_sections (drop l.index l.mine) (drop l.index l.theirs) ≡ same_sections l.mine l.theirs
