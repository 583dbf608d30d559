use Rattle.std.proofs.Common.{◌≡◌, ◌<◌, ◌||◌, length, drop, false}
use Rattle.std.specs.List.{list_any}
use Rattle.line_tree.specs.declared.line.Line.{Line}
use Rattle.line_tree.specs.Lines.{lines_of, IsLineOf}
use Rattle.blocks.specs.Hiding.{hides_break, set_hides}
use Rattle.blocks.specs.Joins.{covers, is_wrong}
use Rattle.blocks.proofs.collecting.line_ranges.Given as goal

abbrev pub invariant-loop-set : goal.invariant-loop-set
invariant-loop-set l = record {
  within : list_any (is_wrong (length (lines_of l.text.characters))) l.ranges.items ≡ false;
  breaks : (line : Line) → IsLineOf l.text.characters line → line.number < length (lines_of l.text.characters)
      → (list_any (covers line.number) l.ranges.items || list_any (set_hides line.to) (drop l.set-index l.sets)) ≡ hides_break l.sets line;
}
