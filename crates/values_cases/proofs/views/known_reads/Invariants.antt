use Rattle.std.proofs.Common.{take}
use Rattle.std.specs.Prelude.{Option, IfSome}
use Rattle.std.specs.List.{AllByRecursion}
use Rattle.values.specs.declared.val.Val.{Val}
use Rattle.values.specs.InRange.{IsInRange}
use Rattle.values_cases.proofs.views.known_reads.Given as goal

abbrev pub invariant-loop-read : goal.invariant-loop-read
invariant-loop-read l = AllByRecursion (λ (v : Option Val). IfSome v IsInRange) (take l.read-index l.reads)
