use Rattle.std.proofs.Common.{◌≡◌, map, take}
use Rattle.commands.specs.Deleting.{deleted}
use Rattle.commands.proofs.deleting.all_deleted.Given as goal

abbrev pub invariant-loop-range : goal.invariant-loop-range
invariant-loop-range l = l.changes.items ≡ map (deleted l.side l.text.characters) (take l.range-index l.ranges)
