use Rattle.std.proofs.Common.{length}
use Rattle.range_set.specs.PrivateChunks.{ArePassed, spread}
use Rattle.range_set.specs.PrivatePages.{AreLast}
use Rattle.range_set.proofs.group_cursor.GroupCursor.past_pages.Given as goal

abbrev pub invariant-loop-placed : goal.invariant-loop-placed
invariant-loop-placed g l = record {
  passed : ArePassed l.place (spread l.self) (spread l.rest);
  last : AreLast l.self l.rest;
}

abbrev pub decreases-loop-placed : goal.decreases-loop-placed
decreases-loop-placed g l = length l.rest
