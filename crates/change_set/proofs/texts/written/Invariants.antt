use Rattle.std.proofs.Common.{◌≡◌, ◌++◌, drop}
use Rattle.change_set.specs.Texts.{written}
use Rattle.change_set.proofs.texts.written.Given as goal

-- what is written, and what is left, are all
abbrev pub invariant-loop-section : goal.invariant-loop-section
invariant-loop-section l = l.builder ++ written (drop l.section-index l.sections) ≡ written l.sections
