use Rattle.std.proofs.Common.{◌≡◌, drop}
use Rattle.pieces.specs.Shading.{block_style}
use Rattle.pieces.proofs.shading.block_style.Given as goal

abbrev pub invariant-loop-i : goal.invariant-loop-i
invariant-loop-i l = l.style ≡ block_style l.from (drop l.i l.sets)
