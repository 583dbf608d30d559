use Rattle.std.proofs.Common.{◌≡◌, take}
use Rattle.values.specs.Updating.{mark_of, with_ranges}
use Rattle.shipped_rules.proofs.marking.with_marks.Given as goal

abbrev pub invariant-loop-effect : goal.invariant-loop-effect
invariant-loop-effect l = l.all ≡ with_ranges (mark_of l.len) l.fn.set (take l.effect-index l.effects)
