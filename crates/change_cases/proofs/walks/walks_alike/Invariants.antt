use Rattle.std.proofs.Common.{◌≡◌, ◌≤◌}
use Rattle.change_cases.proofs.walks.walks_alike.Given as goal

-- the walk is over the description, and has not come further than the place that is next
abbrev pub invariant-loop-pos : goal.invariant-loop-pos
invariant-loop-pos l = record { desc : l.walker.desc ≡ l.desc; reached : l.walker.reached ≤ l.pos }
