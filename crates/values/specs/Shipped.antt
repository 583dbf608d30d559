-- The shipped rules, and that other rules keep their meanings.
use Rattle.std.specs.Prelude.{◌≡◌, ℕ, ◌≤◌}
use Rattle.transaction.specs.Numbers.{IsNumber}
use Rattle.values.specs.Rules.{Rules}
use Rattle.values.specs.Combining.{combine, combine_input, combine_output}
use Rattle.values.specs.Comparing.{compare}
use Rattle.values.specs.Computing.{compute, compute_output}
use Rattle.values.specs.ListComputing.{compute_list, list_output}
use Rattle.values.specs.Creating.{create, create_output}
use Rattle.values.specs.Updating.{update, update_shape}
use Rattle.values.specs.EffectMapping.{map_effect}
use Rattle.values.specs.Guarding.{guard}
use Rattle.values.specs.Filtering.{filter}
use Rattle.values.specs.Extending.{extend}

-- Shipped: the rules by their tables.
abbrev pub shipped : Rules
shipped =
    record {
      combiners = 13;
      combine_input = combine_input 3 4 3;
      combine_output = combine_output;
      combine = combine;
      comparers = 3;
      compare = compare;
      computers = 6;
      compute_output = compute_output;
      compute = compute;
      list_computers = 2;
      list_output = list_output;
      compute_list = compute_list;
      creators = 7;
      create_output = create_output;
      create = create;
      updaters = 8;
      update_shape = update_shape;
      update = update;
      effect_maps = 2;
      map_effect = map_effect;
      change_guards = 3;
      guard = guard;
      transaction_filters = 4;
      filter = filter;
      extenders = 3;
      extend = extend;
    }

-- rules of a sort keep the meanings of the first ones of another
pub record KeepsSort {X : Type 0} (count : ℕ) (from to : ℕ → X) : Type 0 where
  pub kept : (n : ℕ) → IsNumber count n → to n ≡ from n

-- Keeps: rules that may be more than the shipped ones, which keep their numbers, shapes and meanings. The inputs of combiners 9,
-- 10 and 11 are numbers of the change guards, filters and extenders that there are.
pub record KeepsShipped (rules : Rules) : Type 0 where
  pub combiners : shipped.combiners ≤ rules.combiners
  pub combine_input : KeepsSort shipped.combiners (combine_input rules.change_guards rules.transaction_filters rules.extenders) rules.combine_input
  pub combine_output : KeepsSort shipped.combiners combine_output rules.combine_output
  pub combine : KeepsSort shipped.combiners combine rules.combine
  pub comparers : shipped.comparers ≤ rules.comparers
  pub compare : KeepsSort shipped.comparers compare rules.compare
  pub computers : shipped.computers ≤ rules.computers
  pub compute_output : KeepsSort shipped.computers compute_output rules.compute_output
  pub compute : KeepsSort shipped.computers compute rules.compute
  pub list_computers : shipped.list_computers ≤ rules.list_computers
  pub list_output : KeepsSort shipped.list_computers list_output rules.list_output
  pub compute_list : KeepsSort shipped.list_computers compute_list rules.compute_list
  pub creators : shipped.creators ≤ rules.creators
  pub create_output : KeepsSort shipped.creators create_output rules.create_output
  pub create : KeepsSort shipped.creators create rules.create
  pub updaters : shipped.updaters ≤ rules.updaters
  pub update_shape : KeepsSort shipped.updaters update_shape rules.update_shape
  pub update : KeepsSort shipped.updaters update rules.update
  pub effect_maps : shipped.effect_maps ≤ rules.effect_maps
  pub map_effect : KeepsSort shipped.effect_maps map_effect rules.map_effect
  pub change_guards : shipped.change_guards ≤ rules.change_guards
  pub guard : KeepsSort shipped.change_guards guard rules.guard
  pub transaction_filters : shipped.transaction_filters ≤ rules.transaction_filters
  pub filter : KeepsSort shipped.transaction_filters filter rules.filter
  pub extenders : shipped.extenders ≤ rules.extenders
  pub extend : KeepsSort shipped.extenders extend rules.extend
