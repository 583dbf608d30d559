use Rattle.std.proofs.Common.{◌≡◌, ◌++◌, replicate}
use Rattle.cells.specs.Layout.{dot}
use Rattle.cells.proofs.layout.push_dots.Given as goal

abbrev pub invariant-loop : goal.invariant-loop
invariant-loop l = l.cells.items ≡ l.fn.cells.items ++ replicate l.counter dot
