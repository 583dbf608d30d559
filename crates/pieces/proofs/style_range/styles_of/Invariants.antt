use Rattle.std.proofs.Common.{◌≡◌, ℕ, ◌+◌, ◌<◌, length, drop, get_or}
use Rattle.pieces.specs.Styles.{plain}
use Rattle.pieces.specs.Shading.{style_at}
use Rattle.pieces.proofs.style_range.styles_of.Given as goal

abbrev pub invariant-loop-range : goal.invariant-loop-range
invariant-loop-range l = record {
  len : length l.styles.items ≡ l.fn.len;
  style : (p : ℕ) → p < l.fn.len → style_at (get_or l.styles.items p plain) (drop l.range-index l.ranges) (l.at + p) ≡ style_at l.fn.line l.ranges (l.at + p);
}
