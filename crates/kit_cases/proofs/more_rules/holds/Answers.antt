use Rattle.values.specs.Stored.{Combines, Compares}
use Rattle.kit_cases.specs.More.{more}
use Rattle.shipped_kit.proofs.Made.{all_made}
use Rattle.kit_cases.proofs.more_rules.holds.Goals as goal

pub holds_reading-requires-clause-combiners : goal.holds_reading-requires-clause-combiners
holds_reading-requires-clause-combiners c = all_made (Combines more) _ c.each_or_none-combiners.ensures

pub holds_reading-requires-clause-comparers : goal.holds_reading-requires-clause-comparers
holds_reading-requires-clause-comparers c = all_made (Compares more) _ c.each_or_none-comparers.ensures
