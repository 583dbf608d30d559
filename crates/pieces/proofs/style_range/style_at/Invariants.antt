use Rattle.std.proofs.Common.{◌≡◌, drop}
use Rattle.pieces.specs.Shading.{style_at}
use Rattle.pieces.proofs.style_range.style_at.Given as goal

abbrev pub invariant-loop-range : goal.invariant-loop-range
invariant-loop-range l = style_at l.style (drop l.range-index l.ranges) l.place ≡ style_at l.fn.line l.ranges l.place
