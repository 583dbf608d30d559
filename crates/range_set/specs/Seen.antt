-- The range that an iterator lends.
use Rattle.range_set.specs.declared.ranged.Ranged.{Ranged}
use Rattle.range_set.specs.declared.range_ref.RangeRef.{RangeRef}

abbrev pub seen : {T : Type 0} → RangeRef T → Ranged T
seen r = record { from = r.from; to = r.to; value = r.value.now }
