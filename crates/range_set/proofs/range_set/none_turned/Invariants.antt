use Rattle.std.proofs.Common.{◌≡◌, false, take}
use Rattle.std.specs.List.{list_any}
use Rattle.range_set.specs.Mapping.{is_turned}
use Rattle.range_set.specs.PrivateChunks.{flat, spread}
use Rattle.range_set.specs.PrivatePages.{laid}
use Rattle.range_set.proofs.range_set.none_turned.Given as goal

abbrev pub invariant-loop-placed : goal.invariant-loop-placed
invariant-loop-placed g l = list_any (is_turned g.T.RangeValue.rules) (flat (spread (laid (take l.placed-index l.pages)))) ≡ false
