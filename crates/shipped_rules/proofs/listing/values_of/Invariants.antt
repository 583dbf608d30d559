use Rattle.std.proofs.Common.{◌≡◌, take, map}
use Rattle.values.specs.declared.val.Val.TheVariants as val
use Rattle.shipped_rules.proofs.listing.values_of.Given as goal

abbrev pub invariant-loop-item : goal.invariant-loop-item
invariant-loop-item l = l.values ≡ map val.Plain (take l.item-index l.items)
