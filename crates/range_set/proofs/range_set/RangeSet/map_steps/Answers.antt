use Rattle.std.proofs.Common.{◌≡◌, List, length, ap, sym, subst, ◌∙◌, arith}
use Rattle.std.proofs.lemmas.Result.{IfOk-weaker}
use Rattle.std.specs.List.{list_any}
use Rattle.change_desc.specs.Sections.{counted, new_size, old_size}
use Rattle.range_set.specs.Mapping.{EndWithin, is_turned, map_ranges}
use Rattle.range_set.specs.Order.{first_fault}
use Rattle.range_set.specs.PrivateChunks.{AreGroups, flat, spread}
use Rattle.range_set.specs.declared.group.PlacedGroup.{PlacedGroup}
use Rattle.range_set.proofs.Each.{within}
use Rattle.range_set.proofs.Still.{map_still}
use Rattle.range_set.proofs.RangeOrder.{no_fault_in_map}
use Rattle.range_set.proofs.Sets.{map_in}
use Rattle.range_set.proofs.range_set.RangeSet.map_steps.Goals as goal

pub mapped_groups-requires : goal.mapped_groups-requires
mapped_groups-requires g c =
    let rules = g.T.RangeValue.rules in
    let e = c.groups.ensures in
    let shown = ap (λ (gs : List (PlacedGroup g.row.T.Denot)). flat (spread gs)) e ∙ c.self.view_is in
    let count = ap length shown in
    let len = c.len.ensures in
    let fits = c.len.type_inv in
    record {
      groups = subst (AreGroups rules) (sym e) c.self.invariant.sound.groups;
      order = ap (λ (gs : List (PlacedGroup g.row.T.Denot)). first_fault rules (flat (spread gs))) e ∙ c.self.invariant.order;
      room = omega (arith, count, len, fits);
      inside = subst (EndWithin (old_size c.args.changes.now)) (sym shown) c.requires;
    }

pub invariant_of-result : goal.invariant_of-result
invariant_of-result g c =
    let rules = g.T.RangeValue.rules in
    record {
      sound = c.in_ok-groups.ensures.groups;
      order = ap (first_fault rules) c.in_ok-groups.ensures.ranges ∙ no_fault_in_map rules c.args.changes.now (flat (spread c.groups.result));
    }

pub returns-clause-inside : goal.returns-clause-inside
returns-clause-inside g c =
    subst (EndWithin (new_size counted c.args.changes.now)) (sym c.in_ok-groups.ensures.ranges) (map_in g.T.RangeValue.rules c.args.changes.now (flat (spread c.groups.result)))

pub returns-then-none_turned-clause-set : goal.returns-then-none_turned-clause-set
returns-then-none_turned-clause-set g c =
    let rules = g.T.RangeValue.rules in
    let d = c.args.changes.now in
    let rs = c.args.self.now in
    let shown = ap (λ (gs : List (PlacedGroup g.row.T.Denot)). flat (spread gs)) c.pages.ensures.groups ∙ c.self.view_is in
    let order = sym (ap (first_fault rules) c.self.view_is) ∙ c.self.invariant.order in
    let turned = sym (ap (list_any (is_turned rules)) shown) ∙ c.none_turned.ensures c.if-none_turned.true in
    let still = map_still rules d rs (sym c.is_empty.ensures ∙ c.if-is_empty.true) order turned (within (old_size d) rs c.requires) in
    IfOk-weaker c.try_copy.result (λ s. s ≡ rs) (λ s. s ≡ map_ranges rules d rs) (λ s e. e ∙ sym still) c.try_copy.ensures

pub returns-then-none_turned-clause-inside : goal.returns-then-none_turned-clause-inside
returns-then-none_turned-clause-inside g c =
    let rules = g.T.RangeValue.rules in
    let d = c.args.changes.now in
    let rs = c.args.self.now in
    let shown = ap (λ (gs : List (PlacedGroup g.row.T.Denot)). flat (spread gs)) c.pages.ensures.groups ∙ c.self.view_is in
    let order = sym (ap (first_fault rules) c.self.view_is) ∙ c.self.invariant.order in
    let turned = sym (ap (list_any (is_turned rules)) shown) ∙ c.none_turned.ensures c.if-none_turned.true in
    let still = map_still rules d rs (sym c.is_empty.ensures ∙ c.if-is_empty.true) order turned (within (old_size d) rs c.requires) in
    IfOk-weaker c.try_copy.result (λ s. s ≡ rs) (EndWithin (new_size counted d)) (λ s e. subst (EndWithin (new_size counted d)) (sym (e ∙ sym still)) (map_in rules d rs)) c.try_copy.ensures
