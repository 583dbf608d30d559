use Rattle.values.specs.Shipped.{shipped}
use Rattle.values.specs.Stored.{Combines, Compares}
use Rattle.shipped_kit.proofs.Made.{all_made}
use Rattle.shipped_kit.proofs.combining.lend_combining.Goals as goal

pub lend_reading-requires-clause-combiners : goal.lend_reading-requires-clause-combiners
lend_reading-requires-clause-combiners g c = all_made (Combines shipped) _ c.each_or_none-combiners.ensures

pub lend_reading-requires-clause-comparers : goal.lend_reading-requires-clause-comparers
lend_reading-requires-clause-comparers g c = all_made (Compares shipped) _ c.each_or_none-comparers.ensures
