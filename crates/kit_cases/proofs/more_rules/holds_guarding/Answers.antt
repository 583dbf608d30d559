use Rattle.values.specs.Stored.{Guards, MapsEffects}
use Rattle.kit_cases.specs.More.{more}
use Rattle.shipped_kit.proofs.Made.{all_made}
use Rattle.kit_cases.proofs.more_rules.holds_guarding.Goals as goal

pub holds_filtering-requires-clause-effect_maps : goal.holds_filtering-requires-clause-effect_maps
holds_filtering-requires-clause-effect_maps g c = all_made (MapsEffects more) _ c.each_or_none-effect_maps.ensures

pub holds_filtering-requires-clause-change_guards : goal.holds_filtering-requires-clause-change_guards
holds_filtering-requires-clause-change_guards g c = all_made (Guards more) _ c.each_or_none-change_guards.ensures
