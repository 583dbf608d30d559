use Rattle.std.proofs.Common.{◌≡◌, ℕ, ◌<◌, length, get_or}
use Rattle.pieces.specs.Styles.{plain}
use Rattle.pieces.proofs.Covering.{styled_to}
use Rattle.pieces.proofs.style_range.apply.Given as goal

abbrev pub invariant-loop-place : goal.invariant-loop-place
invariant-loop-place l = record {
  len : length l.styles.items ≡ length l.fn.styles.items;
  style : (p : ℕ) → p < length l.fn.styles.items → get_or l.styles.items p plain ≡ styled_to (get_or l.fn.styles.items p plain) l.range l.at l.place p;
}
