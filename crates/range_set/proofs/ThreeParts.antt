-- Groups in three parts that stand one after another.
use Rattle.std.proofs.Common.{◌≡◌, ◌+◌, List, ◌++◌, length, None, ap, subst, ◌∙◌, arith}
use Rattle.std.proofs.lemmas.List.{length-append}
use Rattle.stable_order.proofs.StableSort.{Rises}
use Rattle.range_set.specs.Rules.{RangeRules}
use Rattle.range_set.specs.Order.{before, first_fault}
use Rattle.range_set.specs.PrivateChunks.{AreGroups, flat, spread}
use Rattle.range_set.specs.declared.group.PlacedGroup.{PlacedGroup}
use Rattle.range_set.proofs.Groups.{are_spread, flat-spread_append, flat_forward, groups_left, groups_right}
use Rattle.range_set.proofs.RangeOrder.{no_fault_from, rises-no_fault}
use Rattle.range_set.proofs.Under.{rises_left, rises_right}

module _ {T : Type 0} (rules : RangeRules T) where
  -- what holds of each of three parts of groups
  pub record HaveParts (gs xs ys zs : List (PlacedGroup T)) : Type 0 where
    pub is : flat (spread gs) ≡ flat (spread xs) ++ (flat (spread ys) ++ flat (spread zs))
    pub room : length (flat (spread gs)) ≡ length (flat (spread xs)) + length (flat (spread ys)) + length (flat (spread zs))
    pub first : AreGroups rules xs
    pub second : AreGroups rules ys
    pub third : AreGroups rules zs
    pub rises : Rises (before rules) (flat (spread xs) ++ (flat (spread ys) ++ flat (spread zs)))
    pub order : first_fault rules (flat (spread ys)) ≡ None

  pub have_parts : (gs xs ys zs : List (PlacedGroup T)) → gs ≡ xs ++ (ys ++ zs) → AreGroups rules gs → first_fault rules (flat (spread gs)) ≡ None → HaveParts gs xs ys zs
  have_parts gs xs ys zs e h none =
      let x = flat (spread xs) in
      let y = flat (spread ys) in
      let z = flat (spread zs) in
      let is = ap (λ hs. flat (spread hs)) e ∙ (flat-spread_append xs (ys ++ zs) ∙ ap (λ rs. x ++ rs) (flat-spread_append ys zs)) in
      let all = subst (AreGroups rules) e h in
      let rises = subst (Rises (before rules)) is (rises-no_fault rules (flat (spread gs)) none) in
      let others = groups_right rules xs (ys ++ zs) all in
      let middle = groups_left rules ys zs others in
      record {
        is = is;
        room = let a = ap length is ∙ length-append x (y ++ z) in let b = length-append y z in omega (arith, a, b);
        first = groups_left rules xs (ys ++ zs) all;
        second = middle;
        third = groups_right rules ys zs others;
        rises = rises;
        order = no_fault_from rules 0 None y (rises_left rules y z (rises_right rules x (y ++ z) rises)) tt (flat_forward rules (spread ys) (are_spread rules ys middle));
      }
