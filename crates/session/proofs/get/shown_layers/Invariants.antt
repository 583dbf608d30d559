use Rattle.std.proofs.Common.{◌≡◌, take, map}
use Rattle.session.specs.Values.{shown_ranges}
use Rattle.session.proofs.get.shown_layers.Given as goal

abbrev pub invariant-loop-set : goal.invariant-loop-set
invariant-loop-set l = l.layers.items ≡ map shown_ranges (take l.set-index l.sets)
