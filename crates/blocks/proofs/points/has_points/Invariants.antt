use Rattle.std.proofs.Common.{◌≡◌, drop}
use Rattle.blocks.specs.Points.{has_points}
use Rattle.blocks.proofs.points.has_points.Given as goal

abbrev pub invariant-loop-set : goal.invariant-loop-set
invariant-loop-set l = has_points (drop l.set-index l.layers) ≡ has_points l.layers
