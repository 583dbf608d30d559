use Rattle.std.proofs.Common.{◌≡◌, ◌<◌, ◌||◌, length}
use Rattle.std.specs.List.{list_any}
use Rattle.line_tree.specs.declared.line.Line.{Line}
use Rattle.line_tree.specs.Lines.{lines_of, IsLineOf}
use Rattle.blocks.specs.Hiding.{hides, set_hides}
use Rattle.blocks.specs.Joins.{covers, is_wrong}
use Rattle.blocks.proofs.collecting.push_set.Given as goal

abbrev pub invariant-loop-range : goal.invariant-loop-range
invariant-loop-range l = record {
  within : list_any (is_wrong (length (lines_of l.text.characters))) l.ranges.items ≡ list_any (is_wrong (length (lines_of l.text.characters))) l.fn.ranges.items;
  breaks : (line : Line) → IsLineOf l.text.characters line → line.number < length (lines_of l.text.characters)
      → (list_any (covers line.number) l.ranges.items || list_any (hides line.to) l.range-iterator) ≡ (list_any (covers line.number) l.fn.ranges.items || set_hides line.to l.fn.set);
}
