use Rattle.std.proofs.Common.{◌≡◌, map, take}
use Rattle.commands.specs.Inserting.{replacing}
use Rattle.commands.proofs.inserting.all_replacing.Given as goal

abbrev pub invariant-loop-range : goal.invariant-loop-range
invariant-loop-range l = l.changes.items ≡ map (replacing l.text.characters) (take l.range-index l.ranges)
