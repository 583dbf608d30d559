use Rattle.std.proofs.Common.{◌≡◌, ◌++◌, ◌+◌, ◌<◌, ◌^◌, length, map, take, drop}
use Rattle.std.specs.List.{list_any}
use Rattle.range_set.specs.Mapping.{is_turned}
use Rattle.range_set.specs.Points.{stands}
use Rattle.range_set.specs.PrivateChunks.{flat, greatest_end}
use Rattle.range_set.proofs.Groups.{counted_chunk}
use Rattle.range_set.proofs.group.Group.of.Given as goal

abbrev pub invariant-loop-placed : goal.invariant-loop-placed
invariant-loop-placed g l =
    let rules = g.T.RangeValue.rules in
    let done = take l.placed-index l.fn.chunks.items in
    record {
      items : l.placed-items ≡ map (counted_chunk rules l.start) done ++ drop l.placed-index l.fn.chunks.items;
      count : l.count ≡ length (flat done);
      reach : l.reach ≡ greatest_end (flat (map (counted_chunk rules l.start) done));
      fits : l.start + l.reach < 2 ^ 32;
      turned : l.is_turned ≡ list_any (is_turned rules) (flat done);
      points : l.has_point ≡ list_any (stands rules) (flat done);
    }
