use Rattle.values.specs.Stored.{ComputesLists, Updates}
use Rattle.kit_cases.specs.More.{more}
use Rattle.shipped_kit.proofs.Made.{all_made}
use Rattle.kit_cases.proofs.more_rules.holds_listing.Goals as goal

pub holds_guarding-requires-clause-list_computers : goal.holds_guarding-requires-clause-list_computers
holds_guarding-requires-clause-list_computers g c = all_made (ComputesLists more) _ c.each_or_none-list_computers.ensures

pub holds_guarding-requires-clause-updaters : goal.holds_guarding-requires-clause-updaters
holds_guarding-requires-clause-updaters g c = all_made (Updates more) _ c.each_or_none-updaters.ensures
