use Rattle.std.proofs.Common.{◌≡◌, ◌++◌, ◌+◌, ◌<◌, ◌≤◌, ◌^◌, length, take, drop}
use Rattle.line_tree.proofs.cursor.copy_characters.Given as goal

abbrev pub invariant-loop-left : goal.invariant-loop-left
invariant-loop-left l = record {
  value : l.builder ++ take l.left (drop l.pos l.text.characters) ≡ l.fn.builder ++ take l.fn.count (drop l.fn.from l.text.characters);
  within : l.pos + l.left ≤ length l.text.characters;
  fits : length l.builder + l.left < 2 ^ 32;
}

abbrev pub decreases-loop-left : goal.decreases-loop-left
decreases-loop-left l = l.left
