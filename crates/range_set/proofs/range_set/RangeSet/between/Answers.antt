use Rattle.std.proofs.Common.{List, ap, sym, subst, ◌∙◌}
use Rattle.range_set.specs.PrivateChunks.{Ascend, flat, spread}
use Rattle.range_set.specs.declared.group.PlacedGroup.{PlacedGroup}
use Rattle.range_set.proofs.RangeOrder.{rises-no_fault}
use Rattle.range_set.proofs.Under.{rises_ascend}
use Rattle.range_set.proofs.range_set.RangeSet.between.Goals as goal

pub among-requires : goal.among-requires
among-requires g c =
    let rules = g.T.RangeValue.rules in
    let ranges = flat (spread c.self.inside.groups) in
    subst (Ascend 0) (sym (c.over.ensures ∙ ap (λ (gs : List (PlacedGroup g.row.T.Denot)). flat (spread gs)) c.groups.ensures)) (rises_ascend rules ranges (rises-no_fault rules ranges c.self.invariant.order))
