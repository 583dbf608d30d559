use Rattle.std.proofs.Common.{◌≡◌, map}
use Rattle.commands.specs.Undoing.{sent}
use Rattle.commands.proofs.undoing.all_sent.Given as goal

abbrev pub invariant-loop-effect : goal.invariant-loop-effect
invariant-loop-effect l = l.all.items ≡ map sent l.yielded
