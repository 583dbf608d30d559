use Rattle.std.proofs.Common.{◌≡◌, ℕ, take, drop}
use Rattle.change_desc.specs.Filter.{is_in}
use Rattle.change_set.specs.Protected.{Apart, Rising, StartBefore, pairs}
use Rattle.change_set.proofs.protection.joined.Given as goal

-- the joined ranges protect what those so far do, and start before those that come
abbrev pub invariant-loop-range : goal.invariant-loop-range
invariant-loop-range l =
    record {
      apart : Apart 0 l.joined.items;
      same : (p : ℕ) → is_in l.joined.items p ≡ is_in (pairs (take l.range-index l.range-items)) p;
      starts : StartBefore l.joined.items (drop l.range-index l.range-items);
      rising : Rising (drop l.range-index l.range-items);
    }
