use Rattle.std.proofs.Common.{◌≡◌, map, take}
use Rattle.commands.specs.Moving.{moved_range}
use Rattle.commands.proofs.moving.all_moved.Given as goal

abbrev pub invariant-loop-range : goal.invariant-loop-range
invariant-loop-range l = l.moved.items ≡ map (moved_range l.text.characters l.direction l.extend) (take l.range-index l.ranges)
