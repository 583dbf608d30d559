use Rattle.values.specs.Shipped.{shipped}
use Rattle.values.specs.Stored.{Guards, MapsEffects}
use Rattle.shipped_kit.proofs.Made.{all_made}
use Rattle.shipped_kit.proofs.guarding.lend_guarding.Goals as goal

pub lend_filtering-requires-clause-effect_maps : goal.lend_filtering-requires-clause-effect_maps
lend_filtering-requires-clause-effect_maps g c = all_made (MapsEffects shipped) _ c.each_or_none-effect_maps.ensures

pub lend_filtering-requires-clause-change_guards : goal.lend_filtering-requires-clause-change_guards
lend_filtering-requires-clause-change_guards g c = all_made (Guards shipped) _ c.each_or_none-change_guards.ensures
