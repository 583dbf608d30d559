use Rattle.std.proofs.Common.{◌≡◌, drop}
use Rattle.std.specs.List.{list_all}
use Rattle.commands.specs.Deleting.{edge, has_nothing}
use Rattle.commands.proofs.deleting.all_have_nothing.Given as goal

abbrev pub invariant-loop-range : goal.invariant-loop-range
invariant-loop-range l = record {
  edge_is : l.edge ≡ edge l.fn.side l.fn.text.characters;
  rest : list_all (has_nothing l.fn.side l.fn.text.characters) (drop l.range-index l.ranges) ≡ list_all (has_nothing l.fn.side l.fn.text.characters) l.ranges;
}
