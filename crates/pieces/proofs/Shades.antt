-- One decoration further, and one layer further, in the style and the marks of a block.
use Rattle.std.proofs.Common.{◌≡◌, ℕ, ◌+◌, ◌-◌, ◌<◌, ◌≤◌, List, [], ◌∷◌, ◌++◌, flat_map, length, drop, get_or, ap, ◌∙◌, arith}
use Rattle.std.proofs.lemmas.List.{drop_all}
use Rattle.range_set.specs.declared.ranged.Ranged.{Ranged}
use Rattle.decoration.specs.declared.deco.Deco.{Deco}
use Rattle.decoration.specs.declared.style.Style.{Style}
use Rattle.pieces.specs.Styles.{plain}
use Rattle.pieces.specs.Shading.{block_style, line_over, line_styled, mark_of, marks_of, touching}
use Rattle.pieces.specs.declared.style_range.StyleRange.{StyleRange}
use Rattle.pieces.proofs.Gathering.{drop_item}

pub line_step : (from : ℕ) (style now : Style) (d : Ranged Deco) (left ds : List (Ranged Deco)) (all : Style) → left ≡ d ∷ ds → now ≡ line_over from style d.value d.from → line_styled from style left ≡ all → line_styled from now ds ≡ all
unfolding line_styled
line_step from style now d left ds all taken is goes = rw is (rw taken at goes)

pub line_end : (from : ℕ) (style : Style) (left : List (Ranged Deco)) (all : Style) → left ≡ [] → line_styled from style left ≡ all → style ≡ all
unfolding line_styled
line_end from style left all none goes = rw none at goes

-- the layers from the one before the i-th on
before_item : {X : Type 0} (xs : List X) (i : ℕ) (x : X) → 0 < i → i ≤ length xs → x ≡ get_or xs (i - 1) x → drop (i - 1) xs ≡ x ∷ drop i xs
before_item {X} xs i x some inside is =
    let back : i - 1 + 1 ≡ i = omega arith in
    drop_item xs (i - 1) x (omega arith) is ∙ ap (λ (k : ℕ). x ∷ drop k xs) back

pub block_begin : (from n : ℕ) (sets : List (List (Ranged Deco))) (style : Style) → n ≡ length sets → style ≡ plain → style ≡ block_style from (drop n sets)
unfolding block_style
block_begin from n sets style all is = rw (drop_all n sets (omega arith)) is

pub block_step : (from i : ℕ) (sets : List (List (Ranged Deco))) (set : List (Ranged Deco)) (style now : Style) → 0 < i → i ≤ length sets → set ≡ get_or sets (i - 1) set → style ≡ block_style from (drop i sets) → now ≡ line_styled from style (touching from from set) → now ≡ block_style from (drop (i - 1) sets)
unfolding block_style
block_step from i sets set style now some inside is done step = rw (before_item sets i set some inside is, ← done) step

pub marks_begin : (from to n : ℕ) (sets : List (List (Ranged Deco))) (ranges : List StyleRange) → n ≡ length sets → ranges ≡ [] → ranges ≡ marks_of from to (drop n sets)
unfolding marks_of
marks_begin from to n sets ranges all is = rw (drop_all n sets (omega arith)) is

pub marks_step : (from to i : ℕ) (sets : List (List (Ranged Deco))) (set : List (Ranged Deco)) (ranges now : List StyleRange) → 0 < i → i ≤ length sets → set ≡ get_or sets (i - 1) set → ranges ≡ marks_of from to (drop i sets) → now ≡ ranges ++ flat_map mark_of (touching from to set) → now ≡ marks_of from to (drop (i - 1) sets)
unfolding marks_of
marks_step from to i sets set ranges now some inside is done step = rw (before_item sets i set some inside is, ← done) step
