use Rattle.std.proofs.Common.{◌≡◌, ◌++◌, take, map}
use Rattle.cm_plain.specs.Plain.{datum_of}
use Rattle.values.specs.Reading.{item}
use Rattle.values.specs.Updating.{plain_values}
use Rattle.shipped_rules.proofs.updating.with_values.Given as goal

abbrev pub invariant-loop-effect : goal.invariant-loop-effect
invariant-loop-effect l = map datum_of l.all.items ≡ map datum_of l.fn.items.items ++ map item (plain_values (take l.effect-index l.effects))
