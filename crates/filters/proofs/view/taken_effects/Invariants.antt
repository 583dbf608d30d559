use Rattle.std.proofs.Common.{◌≡◌, filter_map}
use Rattle.filters.specs.Shown.{shown_effect}
use Rattle.filters.proofs.view.taken_effects.Given as goal

abbrev pub invariant-loop-effect : goal.invariant-loop-effect
invariant-loop-effect l = l.shown ≡ filter_map shown_effect l.yielded
