-- A place stands in one block alone, which is the first that it stands in.
use Rattle.std.proofs.Common.{◌≡◌, ℕ, zero, suc, ◌+◌, ◌≤◌, max, Bool, true, false, List, [], ◌∷◌, cond, if◌then◌else◌, Option, Some, refl, ap, ◌∙◌, arith}
use Rattle.std.specs.Prelude.{find, nat_le, option_map, option_and_then, slice_get}
use Rattle.std.proofs.lemmas.Bool.{and_parts}
use Rattle.std.proofs.lemmas.Bool.Decides.{nat_tests}
use Rattle.line_tree.specs.declared.line.Line as lines
use Rattle.selection.specs.declared.range.Range.{Range}
use Rattle.viewport.specs.Reveal.{Shows}
use Rattle.viewport.specs.Window.{Window}
use Rattle.blocks.specs.Hiding.{blocks_of}
use Rattle.blocks.proofs.Apart.{one_block}
use Rattle.pieces.specs.Piece.{PieceView}
use Rattle.pieces.specs.Widths.{is_before, width_of}
use Rattle.line_rows.specs.Column.{column_of}
use Rattle.screen.specs.declared.head.HeadPlace.{HeadPlace}
use Rattle.screen.specs.Screen.{ViewView}
use Rattle.screen.specs.Head.{ShowsHead, block_with, cursor_in, head_place, place_from, place_in, placed, stands_in}
use Rattle.screen.specs.Reveal.{moved_to, revealed_window}

stands : (p : ℕ) (b : lines.Line) → b.from ≤ p → p ≤ b.to → stands_in p b ≡ true
stands p b starts ends = grind (arith, nat_tests)

stands_parts : (p : ℕ) (b : lines.Line) → stands_in p b ≡ true → (b.from ≤ p) × (p ≤ b.to)
stands_parts p b is =
    let parts = and_parts (nat_le b.from p) (nat_le p b.to) is in
    (grind (arith, nat_tests, parts.0), grind (arith, nat_tests, parts.1))

-- the only element that a test takes is the first that it takes
found_one : {X : Type 0} (test : X → Bool) (xs : List X) (k : ℕ) (b : X) → slice_get xs k ≡ Some b → test b ≡ true → ((j : ℕ) (a : X) → slice_get xs j ≡ Some a → test a ≡ true → a ≡ b) → find test xs ≡ Some b
found_one test [] k b is takes only = cc
found_one test (x ∷ xs) k b is takes only =
    by (λ i found. found_one test xs i b found takes (λ j a at passes. only (suc j) a at passes)) (test x) refl
  where
    after : test x ≡ false → ((i : ℕ) → slice_get xs i ≡ Some b → find test xs ≡ Some b) → (i : ℕ) → slice_get (x ∷ xs) i ≡ Some b → find test xs ≡ Some b
    after fails more zero found = cc
    after fails more (suc i) found = more i found

    by : ((i : ℕ) → slice_get xs i ≡ Some b → find test xs ≡ Some b) → (t : Bool) → test x ≡ t → cond t (Some x) (find test xs) ≡ Some b
    by more true passes = ap Some (only 0 x refl passes)
    by more false fails = after fails more k is

-- a block in which a place stands is the first one
pub block_found : (v : ViewView) (k p : ℕ) (b : lines.Line) → slice_get (blocks_of v.text v.layers) k ≡ Some b → b.from ≤ p → p ≤ b.to → block_with v p ≡ Some b
block_found v k p b is starts ends =
    found_one (stands_in p) (blocks_of v.text v.layers) k b is (stands p b starts ends)
    (λ j a at passes.
    let parts = stands_parts p a passes in
    one_block v.text v.layers j k a b p at is parts.0 parts.1 starts ends)

-- the place of the main range's head
pub head_found : (v : ViewView) (main : Range) (b : lines.Line) → slice_get v.selection.ranges v.selection.main ≡ Some main → block_with v main.head ≡ Some b → head_place v ≡ Some (place_in v main.head b)
head_found v main b is_main is_block =
    ap (λ (o : Option Range). option_and_then (placed v) (option_map (λ (r : Range). r.head) o)) is_main
    ∙ ap (λ (o : Option lines.Line). option_map (place_in v main.head) o) is_block

-- the window that shows the head
pub revealed_is : (v : ViewView) (p : HeadPlace) → head_place v ≡ Some p → moved_to v.window p ≡ revealed_window v
revealed_is v p is = rw is refl

-- the cursor
pub cursor_is : (v : ViewView) (p : HeadPlace) → head_place v ≡ Some p → place_from v.window p ≡ cursor_in v
cursor_is v p is = rw is refl

-- a window that shows a place of the head shows the head
pub shows_head : (v : ViewView) (w : Window) (p : HeadPlace) → head_place v ≡ Some p → Shows w p.number p.column 1 → ShowsHead (record v { window = w })
shows_head v w p is shows = rw is shows

-- and the other way round
pub shows_place : (v : ViewView) (p : HeadPlace) → head_place v ≡ Some p → ShowsHead v → Shows v.window p.number p.column 1
shows_place v p is shows = rw is at shows

-- a piece at a place counts as one column at least
pub wide_some : (tab pos column : ℕ) (ps : List PieceView) → 1 ≤ (column_of tab pos column ps).1
unfolding column_of
wide_some tab pos column [] = omega arith
wide_some tab pos column (p ∷ ps) = by (is_before pos p) (wide_some tab pos (column + width_of tab column p) ps)
  where
    by : (b : Bool) → 1 ≤ (column_of tab pos (column + width_of tab column p) ps).1 → 1 ≤ (if b then column_of tab pos (column + width_of tab column p) ps else (column, max (width_of tab column p) 1)).1
    by true more = more
    by false more = omega arith
