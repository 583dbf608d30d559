use Rattle.std.proofs.Common.{◌≡◌, ◌++◌, ◌+◌, ◌<◌, ◌^◌, map, take, drop}
use Rattle.std.specs.List.{list_any}
use Rattle.range_set.specs.Mapping.{is_turned}
use Rattle.range_set.specs.Points.{stands}
use Rattle.range_set.specs.PrivateChunks.{greatest_end}
use Rattle.range_set.proofs.Chunks.{counted_from}
use Rattle.range_set.proofs.chunk.Chunk.of.Given as goal

abbrev pub invariant-loop-range : goal.invariant-loop-range
invariant-loop-range g l =
    let rules = g.T.RangeValue.rules in
    let done = take l.range-index l.fn.ranges.items in
    record {
      items : l.range-items ≡ map (counted_from rules l.start) done ++ drop l.range-index l.fn.ranges.items;
      reach : l.reach ≡ greatest_end (map (counted_from rules l.start) done);
      fits : l.start + l.reach < 2 ^ 32;
      turned : l.is_turned ≡ list_any (is_turned rules) done;
      points : l.has_point ≡ list_any (stands rules) done;
    }
