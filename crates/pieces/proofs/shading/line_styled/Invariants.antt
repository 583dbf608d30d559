use Rattle.std.proofs.Common.{◌≡◌}
use Rattle.pieces.specs.Shading.{line_styled, touching}
use Rattle.pieces.proofs.shading.line_styled.Given as goal

abbrev pub invariant-loop-range : goal.invariant-loop-range
invariant-loop-range l = line_styled l.from l.style l.range-iterator ≡ line_styled l.from l.fn.style (touching l.from l.from l.fn.set)
