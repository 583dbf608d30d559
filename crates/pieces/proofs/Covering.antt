-- One character further under a range, and one range further.
use Rattle.std.proofs.Common.{◌≡◌, ℕ, ◌+◌, ◌&&◌, nat_lt, nat_le, List, [], ◌∷◌, if◌then◌else◌}
use Rattle.decoration.specs.declared.style.Style.{Style}
use Rattle.pieces.specs.Styles.{over}
use Rattle.pieces.specs.Shading.{style_at, styled}
use Rattle.pieces.specs.declared.style_range.StyleRange.{StyleRange}

-- the style of a character where the range has been put over those before the character `end`
abbrev pub styled_to : Style → StyleRange → ℕ → ℕ → ℕ → Style
styled_to under r at end p = if nat_le r.from (at + p) && nat_lt p end then over under r.style else under

-- one range further
pub style_step : (line : Style) (m : StyleRange) (left ms ranges : List StyleRange) (p : ℕ) (before now : Style) → left ≡ m ∷ ms → now ≡ styled before m p → style_at before left p ≡ style_at line ranges p → style_at now ms p ≡ style_at line ranges p
unfolding style_at
style_step line m left ms ranges p before now taken is goes = rw is (rw taken at goes)

pub style_end : (line : Style) (left ranges : List StyleRange) (p : ℕ) (now : Style) → left ≡ [] → style_at now left p ≡ style_at line ranges p → now ≡ style_at line ranges p
unfolding style_at
style_end line left ranges p now none goes = rw none at goes
