use Rattle.std.proofs.Common.{◌≡◌, false, take}
use Rattle.std.specs.List.{list_any}
use Rattle.values.specs.Combining.{is_true}
use Rattle.shipped_rules.proofs.combining.some_true.Given as goal

abbrev pub invariant-loop-input : goal.invariant-loop-input
invariant-loop-input l = list_any is_true (take l.input-index l.inputs) ≡ false
