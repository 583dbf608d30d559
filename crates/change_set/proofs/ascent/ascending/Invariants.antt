use Rattle.std.proofs.Common.{◌≡◌}
use Rattle.change_set.specs.Ascents.{IsAscent, total_of}
use Rattle.change_set.specs.Totals.{IsTotal}
use Rattle.change_set.proofs.ascent.ascending.Given as goal

-- the changes so far make their total
abbrev pub invariant-loop-count : goal.invariant-loop-count
invariant-loop-count l = record {
  is_ascent : IsAscent l.ascent;
  same_len : l.ascent.len ≡ l.len;
  total : IsTotal l.len l.max l.count (total_of l.ascent) l.changes;
}
