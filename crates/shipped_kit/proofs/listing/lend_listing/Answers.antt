use Rattle.values.specs.Shipped.{shipped}
use Rattle.values.specs.Stored.{ComputesLists, Updates}
use Rattle.shipped_kit.proofs.Made.{all_made}
use Rattle.shipped_kit.proofs.listing.lend_listing.Goals as goal

pub lend_guarding-requires-clause-list_computers : goal.lend_guarding-requires-clause-list_computers
lend_guarding-requires-clause-list_computers g c = all_made (ComputesLists shipped) _ c.each_or_none-list_computers.ensures

pub lend_guarding-requires-clause-updaters : goal.lend_guarding-requires-clause-updaters
lend_guarding-requires-clause-updaters g c = all_made (Updates shipped) _ c.each_or_none-updaters.ensures
