use Rattle.std.proofs.Common.{take}
use Rattle.std.specs.List.{AllByRecursion}
use Rattle.values.specs.InRange.{IsShownInRange}
use Rattle.values.proofs.tr_notes.known_effects.Given as goal

abbrev pub invariant-loop-effect : goal.invariant-loop-effect
invariant-loop-effect l = AllByRecursion IsShownInRange (take l.effect-index l.effects)
