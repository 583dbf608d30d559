use Rattle.std.proofs.Common.{◌≡◌, ◌+◌, ◌<◌, ◌^◌, ◌++◌, length, map, take, drop}
use Rattle.std.specs.List.{list_any}
use Rattle.range_set.specs.Mapping.{is_turned}
use Rattle.range_set.specs.Points.{stands}
use Rattle.range_set.specs.PrivateChunks.{flat, greatest_end, spread}
use Rattle.range_set.proofs.WholePages.{counted_group}
use Rattle.range_set.proofs.page.Page.of.Given as goal

abbrev pub invariant-loop-placed : goal.invariant-loop-placed
invariant-loop-placed g l =
    let rules = g.T.RangeValue.rules in
    let done = take l.placed-index l.fn.groups.items in
    record {
      items : l.placed-items ≡ map (counted_group rules l.start) done ++ drop l.placed-index l.fn.groups.items;
      count : l.count ≡ length (flat (spread done));
      reach : l.reach ≡ greatest_end (flat (spread (map (counted_group rules l.start) done)));
      fits : l.start + l.reach < 2 ^ 32;
      turned : l.is_turned ≡ list_any (is_turned rules) (flat (spread done));
      points : l.has_point ≡ list_any (stands rules) (flat (spread done));
    }
