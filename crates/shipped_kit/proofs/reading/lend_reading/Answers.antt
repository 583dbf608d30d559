use Rattle.values.specs.Shipped.{shipped}
use Rattle.values.specs.Stored.{Computes, Creates}
use Rattle.shipped_kit.proofs.Made.{all_made}
use Rattle.shipped_kit.proofs.reading.lend_reading.Goals as goal

pub lend_listing-requires-clause-computers : goal.lend_listing-requires-clause-computers
lend_listing-requires-clause-computers g c = all_made (Computes shipped) _ c.each_or_none-computers.ensures

pub lend_listing-requires-clause-creators : goal.lend_listing-requires-clause-creators
lend_listing-requires-clause-creators g c = all_made (Creates shipped) _ c.each_or_none-creators.ensures
