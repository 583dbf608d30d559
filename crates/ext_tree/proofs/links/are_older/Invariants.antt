use Rattle.std.proofs.Common.{take, drop}
use Rattle.std.specs.List.{AllByRecursion}
use Rattle.ext_tree.specs.Tree.{IsOlder}
use Rattle.ext_tree.proofs.links.are_older.Given as goal

abbrev pub invariant-loop-other : goal.invariant-loop-other
invariant-loop-other l = record {
  older : AllByRecursion (IsOlder l.node) (take l.other-index l.nodes);
  rest : AllByRecursion (IsOlder l.node) l.nodes → AllByRecursion (IsOlder l.node) (drop l.other-index l.nodes);
}
