use Rattle.values.specs.Stored.{Computes, Creates}
use Rattle.kit_cases.specs.More.{more}
use Rattle.shipped_kit.proofs.Made.{all_made}
use Rattle.kit_cases.proofs.more_rules.holds_reading.Goals as goal

pub holds_listing-requires-clause-computers : goal.holds_listing-requires-clause-computers
holds_listing-requires-clause-computers g c = all_made (Computes more) _ c.each_or_none-computers.ensures

pub holds_listing-requires-clause-creators : goal.holds_listing-requires-clause-creators
holds_listing-requires-clause-creators g c = all_made (Creates more) _ c.each_or_none-creators.ensures
