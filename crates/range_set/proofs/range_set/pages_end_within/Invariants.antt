use Rattle.std.proofs.Common.{take}
use Rattle.range_set.specs.PrivateChunks.{flat, spread}
use Rattle.range_set.specs.PrivatePages.{laid}
use Rattle.range_set.proofs.Each.{Within}
use Rattle.range_set.proofs.range_set.pages_end_within.Given as goal

abbrev pub invariant-loop-placed : goal.invariant-loop-placed
invariant-loop-placed g l = Within l.len (flat (spread (laid (take l.placed-index l.pages))))
