use Rattle.std.proofs.Common.{◌≡◌, ℕ, List, ◌++◌, length, map}
use Rattle.std.specs.List.{list_any}
use Rattle.change_desc.specs.Meeting.{BeginAfter}
use Rattle.change_desc.specs.Ranges.{meets, replaced}
use Rattle.change_desc.specs.Sections.{old_size}
use Rattle.range_set.specs.declared.ranged.Ranged.{Ranged}
use Rattle.range_set.specs.PrivateChunks.{Ascend, grow, shift, stretch}
use Rattle.range_set.specs.PrivateMoving.{AreMoved, AreWithin, IsClearWalk}
use Rattle.range_set.proofs.Each.{FirstBy}
use Rattle.range_set.proofs.moving.map_each.Given as goal

abbrev pub invariant-loop-first : goal.invariant-loop-first
invariant-loop-first g l =
    let items = (stretch l.grown l.chunk.value).ranges in
    let rest = map (grow l.grown) l.rest in
    record {
      moved : AreMoved g.T.RangeValue.rules l.initial.walk.walker.desc l.start items rest l.fn.run.items l.run.items l.initial.mapped l.mapped;
      within : AreWithin (old_size l.initial.walk.walker.desc) l.start rest;
      desc : l.walk.walker.desc ≡ l.initial.walk.walker.desc;
      walk : (later : List (Ranged g.row.T.Denot)) → Ascend l.initial.walk.walker.reached (map (shift l.start) items ++ later)
          → Ascend l.walk.walker.reached (map (shift l.start) rest ++ later);
      clear : IsClearWalk l.walk;
      begin : BeginAfter 0 l.left;
      same : (a b : ℕ) → FirstBy a (map (shift l.start) rest) → list_any (meets a b) l.left ≡ list_any (meets a b) (replaced l.initial.walk.walker.desc);
    }

abbrev pub decreases-loop-first : goal.decreases-loop-first
decreases-loop-first g l = length l.rest
