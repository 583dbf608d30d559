use Rattle.std.proofs.Common.{◌≡◌, drop, length}
use Rattle.names.specs.Sets.{sound_prefix}
use Rattle.names.proofs.Prefixes.{after}
use Rattle.names.proofs.sets.sound_prefix.Given as goal

abbrev pub invariant-loop-next : goal.invariant-loop-next
invariant-loop-next l = (length l.ranges.items ≡ l.next-index) × (after l.ranges.items (sound_prefix l.next-index (drop l.next-index l.written)) ≡ sound_prefix 0 l.written)
