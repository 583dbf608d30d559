use Rattle.std.proofs.Common.{◌<◌, ℕ, slice_get}
use Rattle.std.specs.List.{AllByRecursion}
use Rattle.ext_tree.specs.Tree.{IsOlder, linked}
use Rattle.ext_tree.proofs.links.are_links_older.Given as goal

abbrev pub invariant-loop-place : goal.invariant-loop-place
invariant-loop-place l = (n : ℕ) → n < l.place → AllByRecursion (IsOlder n) (linked l.links (slice_get l.nodes n))
