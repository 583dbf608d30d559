use Rattle.values.specs.Stored.{Extends, Filters}
use Rattle.kit_cases.specs.More.{more}
use Rattle.shipped_kit.proofs.Made.{all_made}
use Rattle.kit_cases.proofs.more_rules.holds_filtering.Goals as goal

pub new-kit-requires : goal.new-kit-requires
new-kit-requires g c = record {
  combiners = c.requires.combiners;
  comparers = c.requires.comparers;
  computers = c.requires.computers;
  list_computers = c.requires.list_computers;
  creators = c.requires.creators;
  updaters = c.requires.updaters;
  effect_maps = c.requires.effect_maps;
  change_guards = c.requires.change_guards;
  filters = all_made (Filters more) _ c.each_or_none-filters.ensures;
  extenders = all_made (Extends more) _ c.each_or_none-extenders.ensures;
}
