use Rattle.std.proofs.Common.{List, length, ap, ◌∙◌, arith}
use Rattle.range_set.specs.PrivateChunks.{flat, spread}
use Rattle.range_set.specs.declared.chunk.Placed.{Placed}
use Rattle.range_set.specs.declared.group.PlacedGroup.{PlacedGroup}
use Rattle.range_set.proofs.range_set.RangeSet.update.Goals as goal

pub in_groups-requires-clause-room : goal.in_groups-requires-clause-room
in_groups-requires-clause-room g c =
    let opened = ap (λ (ps : List (Placed g.row.T.Denot)). length (flat ps)) c.as_slice-2.ensures.value in
    let ranges = ap length (c.in_ok-chunks.ensures.ranges ∙ (ap (λ (gs : List (PlacedGroup g.row.T.Denot)). flat (spread gs)) c.groups.ensures ∙ c.self.view_is)) in
    let few = c.in_ok-chunks-2.ensures.few in
    let added = ap length c.as_slice.ensures.value in
    let room = c.in_ok-check_added.ensures.room in
    omega (arith, opened, ranges, few, added, room)
