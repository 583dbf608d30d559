-- The place of a line of which nothing but its characters is shown, by its pieces and by a part of it.
use Rattle.std.proofs.Common.{◌≡◌, ℕ, suc, ◌+◌, ◌-◌, ◌<◌, ◌≤◌, min, max, Bool, true, false, ◌&&◌, ◌||◌, nat_lt, List, [], ◌∷◌, ◌++◌, length, map, flat_map, cond, refl, sym, ap, ◌∙◌, arith, if◌then◌else◌}
use Rattle.std.specs.Prelude.{◌==◌}
use Rattle.std.proofs.lemmas.Bool.{and_parts}
use Rattle.std.proofs.lemmas.Bool.Decides.{nat_tests}
use Rattle.std.specs.Str.{chars}
use Rattle.range_set.specs.declared.ranged.Ranged.{Ranged}
use Rattle.range_set.specs.Points.{stands}
use Rattle.range_set.specs.Updating.{overlaps}
use Rattle.decoration.specs.declared.deco.Deco.{Deco}
use Rattle.decoration.specs.declared.deco.Deco.TheVariants.{Mark, Widget, Replace, Line}
use Rattle.decoration.specs.declared.style.Style.{Style}
use Rattle.decoration.specs.Sides.{deco_rules, is_point}
use Rattle.selection.specs.declared.range.Range.{Range}
use Rattle.stable_order.specs.StableSort.{stable_sort}
use Rattle.line_tree.specs.Text.{slice}
use Rattle.cells.specs.Layout.{cells_of, clusters}
use Rattle.cells.proofs.Printable.{are_printable, chars-printable, clusters_singles, is_printable, printable_cells, singles}
use Rattle.blocks.specs.Points.{has_point, has_points}
use Rattle.blocks.proofs.Covered.{or_parts}
use Rattle.pieces.specs.Items.{ItemView, item_before, item_in, item_of, items_of, set_items}
use Rattle.pieces.specs.Pieces.{block_of, by_clusters, walked}
use Rattle.pieces.specs.Rules.{pieces_of}
use Rattle.pieces.specs.Shading.{touching}
use Rattle.pieces.proofs.Prefixes.{clusters_agree, slice-both}
use Rattle.pieces.proofs.Ruled.{items-forward, items-rise, walked-ruled}
use Rattle.pieces.proofs.Walks.{total}
use Rattle.line_rows.specs.Column.{column_of}
use Rattle.line_rows.specs.Place.{is_told, place_of}

-- tests of numbers
pub less_is : (a b : ℕ) → nat_lt a b ≡ true → a < b
less_is a b e = grind (arith, nat_tests)

not_less_is : (a b : ℕ) → nat_lt a b ≡ false → b ≤ a
not_less_is a b e = grind (arith, nat_tests)

pub at_least : (a b : ℕ) → b ≤ a → nat_lt a b ≡ false
at_least a b more = grind (arith, nat_tests)

pub too_few : (a b : ℕ) → a < b → nat_lt a b ≡ true
too_few a b less = grind (arith, nat_tests)

-- one cluster further
pub place_next : (tab pos at now column width : ℕ) (g : List ℕ) (left rest : List (List ℕ)) (all : ℕ × ℕ) → left ≡ g ∷ rest → now ≡ at + length (chars g) → width ≡ length (cells_of tab column (chars g)) → nat_lt at pos ≡ true → place_of tab pos at column (map chars left) ≡ all → place_of tab pos now (column + width) (map chars rest) ≡ all
unfolding place_of
place_next tab pos at now column width g left rest all taken place long before goes =
    let here = rw taken at goes in
    let later = rw before at here in
    rw (place, long) later

pub place_here : (tab pos at column width wide : ℕ) (g : List ℕ) (left rest : List (List ℕ)) (all : ℕ × ℕ) → left ≡ g ∷ rest → width ≡ length (cells_of tab column (chars g)) → wide ≡ max width 1 → nat_lt at pos ≡ false → place_of tab pos at column (map chars left) ≡ all → (column, wide) ≡ all
unfolding place_of
place_here tab pos at column width wide g left rest all taken long some after goes =
    let here = rw taken at goes in
    let there = rw after at here in
    rw (some, long) there

pub place_none : (tab pos at column : ℕ) (left : List (List ℕ)) (all : ℕ × ℕ) → left ≡ [] → place_of tab pos at column (map chars left) ≡ all → (column, 1) ≡ all
unfolding place_of
place_none tab pos at column left all none goes = rw none at goes

told_step : (pos at : ℕ) (g : List ℕ) (rest : List (List ℕ)) → nat_lt at pos ≡ true → is_told pos at (g ∷ rest) ≡ is_told pos (at + length g) rest
unfolding is_told
told_step pos at g [] before = refl
told_step pos at g (h ∷ hs) before = rw before refl

pub told_next : (pos at now : ℕ) (g : List ℕ) (left rest : List (List ℕ)) (all : Bool) → left ≡ g ∷ rest → now ≡ at + length (chars g) → nat_lt at pos ≡ true → is_told pos at (map chars left) ≡ all → is_told pos now (map chars rest) ≡ all
told_next pos at now g left rest all taken place before goes =
    let here = rw taken at goes in
    rw place (sym (told_step pos at (chars g) (map chars rest) before) ∙ here)

told_one : (pos at : ℕ) (g : List ℕ) (rest : List (List ℕ)) → nat_lt at pos ≡ false → 0 < total rest → is_told pos at (g ∷ rest) ≡ true
unfolding is_told
told_one pos at g [] after more = absurd (omega (arith, more))
told_one pos at g (h ∷ hs) after more = rw after refl

pub told_here : (pos at len end : ℕ) (g : List ℕ) (left rest : List (List ℕ)) (all : Bool) → left ≡ g ∷ rest → end ≡ at + length (chars g) → end < len → nat_lt at pos ≡ false → at + total (map chars left) ≡ len → is_told pos at (map chars left) ≡ all → all ≡ true
told_here pos at len end g left rest all taken place more after sum goes =
    let here = rw taken at goes in
    let whole = rw taken at sum in
    sym here ∙ told_one pos at (chars g) (map chars rest) after (omega (arith, whole, place, more))

pub sum_next : (at now len : ℕ) (g : List ℕ) (left rest : List (List ℕ)) → left ≡ g ∷ rest → now ≡ at + length (chars g) → at + total (map chars left) ≡ len → now + total (map chars rest) ≡ len
sum_next at now len g left rest taken place sum =
    let whole = rw taken at sum in
    omega (arith, whole, place)

pub sum_fits : (at len : ℕ) (g : List ℕ) (left rest : List (List ℕ)) → left ≡ g ∷ rest → at + total (map chars left) ≡ len → at + length (chars g) ≤ len
sum_fits at len g left rest taken sum =
    let whole = rw taken at sum in
    omega (arith, whole)

-- where a cluster follows in a part from the start, the part tells
told_same : (tab pos at column : ℕ) (common last more : List (List ℕ)) → length last ≤ 1 → is_told pos at (common ++ last) ≡ true → place_of tab pos at column (common ++ last) ≡ place_of tab pos at column (common ++ more)
unfolding place_of is_told
told_same tab pos at column [] [] more short told = cc
told_same tab pos at column [] (g ∷ []) more short told = cc
told_same tab pos at column [] (g ∷ h ∷ gs) more short told = absurd (omega (arith, short))
told_same tab pos at column (g ∷ gs) last more short told =
    by (nat_lt at pos) refl
    (λ before. told_same tab pos (at + length g) (column + length (cells_of tab column g)) gs last more short (sym (told_step pos at g (gs ++ last) before) ∙ told))
  where
    width : ℕ
    width = length (cells_of tab column g)

    next : List (List ℕ) → ℕ × ℕ
    next rest = place_of tab pos (at + length g) (column + width) rest

    by : (b : Bool) → nat_lt at pos ≡ b → (nat_lt at pos ≡ true → next (gs ++ last) ≡ next (gs ++ more)) → (if b then next (gs ++ last) else (column, max width 1)) ≡ (if b then next (gs ++ more) else (column, max width 1))
    by true before more_same = more_same before
    by false after more_same = refl

pub part_place : (tab pos from stop to : ℕ) (text : List ℕ) → from ≤ stop → stop ≤ to → is_told pos 0 (clusters (slice from stop text)) ≡ true → place_of tab pos 0 0 (clusters (slice from stop text)) ≡ place_of tab pos 0 0 (clusters (slice from to text))
part_place tab pos from stop to text before after told =
    let a = clusters_agree (slice from stop text) (slice stop to text) in
    let all : clusters (slice from to text) ≡ a.common ++ a.more = ap clusters (slice-both from stop to text before after) ∙ a.all_is in
    ap (place_of tab pos 0 0) a.some_is
    ∙ told_same tab pos 0 0 a.common a.last a.more a.short (sym (ap (is_told pos 0) a.some_is) ∙ told)
    ∙ sym (ap (place_of tab pos 0 0) all)

-- the column of a place by pieces that are clusters
clusters_column : (f : ℕ → Style) (tab pos at column : ℕ) (gs : List (List ℕ)) → column_of tab pos column (by_clusters f at gs) ≡ place_of tab pos at column gs
unfolding column_of by_clusters place_of
clusters_column f tab pos at column [] = refl
clusters_column f tab pos at column (g ∷ gs) =
    by (nat_lt at pos) (at == pos) (clusters_column f tab pos (at + length g) (column + width) gs)
  where
    width : ℕ
    width = length (cells_of tab column g)

    by : (t u : Bool) → column_of tab pos (column + width) (by_clusters f (at + length g) gs) ≡ place_of tab pos (at + length g) (column + width) gs
        → (if t || (u && false) then column_of tab pos (column + width) (by_clusters f (at + length g) gs) else (column, max width 1))
        ≡ (if t then place_of tab pos (at + length g) (column + width) gs else (column, max width 1))
    by true u more = more
    by false true more = refl
    by false false more = refl

no_item : (from : ℕ) (d : Deco) (place to : ℕ) → is_point d ≡ false → item_in from d place to ≡ []
no_item from (Mark m) place to none = refl
no_item from (Widget w) place to none = cc
no_item from (Replace r) place to none = cc
no_item from (Line s) place to none = cc

set_none : (from to : ℕ) (set : List (Ranged Deco)) → has_point set ≡ false → set_items from to set ≡ []
set_none from to [] none = refl
set_none from to (d ∷ ds) none =
    let parts = or_parts (stands deco_rules d) (has_point ds) none in
    by (overlaps from to d) (no_item from d.value d.from d.to parts.0) (set_none from to ds parts.1)
  where
    by : (b : Bool) → item_of from d ≡ [] → set_items from to ds ≡ [] → flat_map (item_of from) (cond b (d ∷ touching from to ds) (touching from to ds)) ≡ []
    by true here more = ap (λ (xs : List ItemView). xs ++ set_items from to ds) here ∙ more
    by false here more = more

layers_none : (from to : ℕ) (layers : List (List (Ranged Deco))) → has_points layers ≡ false → flat_map (set_items from to) layers ≡ []
layers_none from to [] none = refl
layers_none from to (set ∷ sets) none =
    let parts = or_parts (has_point set) (has_points sets) none in
    ap (λ (xs : List ItemView). xs ++ flat_map (set_items from to) sets) (set_none from to set parts.0) ∙ layers_none from to sets parts.1

-- the pieces are the line's clusters
plain_pieces : (text : List ℕ) (from to : ℕ) (layers : List (List (Ranged Deco))) (ranges : List Range) → has_points layers ≡ false → (pieces_of text from to layers ranges).pieces ≡ by_clusters (block_of text from to layers ranges).style_of 0 (clusters (slice from to text))
unfolding walked
plain_pieces text from to layers ranges none =
    let b = block_of text from to layers ranges in
    let items : items_of from to layers ≡ [] = ap (stable_sort item_before) (layers_none from to layers none) in
    let start : from - from ≡ 0 = omega arith in
    let end : min to to ≡ to = omega arith in
    sym (walked-ruled b (items_of from to layers) (items-forward from to layers) (items-rise from to layers))
    ∙ ap (walked b from) items
    ∙ ap (λ (k : ℕ). by_clusters b.style_of (from - from) (clusters (slice from k text))) end
    ∙ ap (λ (k : ℕ). by_clusters b.style_of k (clusters (slice from to text))) start

pub plain_column : (tab pos : ℕ) (text : List ℕ) (from to : ℕ) (layers : List (List (Ranged Deco))) (ranges : List Range) → has_points layers ≡ false → place_of tab pos 0 0 (clusters (slice from to text)) ≡ column_of tab pos 0 (pieces_of text from to layers ranges).pieces
plain_column tab pos text from to layers ranges none =
    sym (ap (column_of tab pos 0) (plain_pieces text from to layers ranges none)
    ∙ clusters_column (block_of text from to layers ranges).style_of tab pos 0 0 (clusters (slice from to text)))

-- ---- printable ASCII

min_next : (pos at column n : ℕ) → at < pos → column + 1 + min (pos - (at + 1)) n ≡ column + min (pos - at) (suc n)
min_next pos at column n before = omega (arith, before)

min_here : (pos at column n : ℕ) → pos ≤ at → column ≡ column + min (pos - at) n
min_here pos at column n after = omega (arith, after)

place_singles : (tab pos at column : ℕ) (cs : List ℕ) → are_printable cs ≡ true → place_of tab pos at column (singles cs) ≡ (column + min (pos - at) (length cs), 1)
unfolding place_of
place_singles tab pos at column [] all =
    let none : column ≡ column + min (pos - at) 0 = omega arith in
    ap (λ (k : ℕ). (k, 1)) none
place_singles tab pos at column (c ∷ cs) all =
    let parts = and_parts (is_printable c) (are_printable cs) all in
    let one : length (cells_of tab column (c ∷ [])) ≡ 1 = printable_cells tab column (c ∷ []) (rw parts.0 refl) in
    rw one (by (nat_lt at pos) refl (place_singles tab pos (at + 1) (column + 1) cs parts.1))
  where
    by : (b : Bool) → nat_lt at pos ≡ b → place_of tab pos (at + 1) (column + 1) (singles cs) ≡ (column + 1 + min (pos - (at + 1)) (length cs), 1)
        → (if b then place_of tab pos (at + 1) (column + 1) (singles cs) else (column, max 1 1)) ≡ (column + min (pos - at) (suc (length cs)), 1)
    by true before more = more ∙ ap (λ (k : ℕ). (k, 1)) (min_next pos at column (length cs) (less_is at pos before))
    by false after more = ap (λ (k : ℕ). (k, 1)) (min_here pos at column (suc (length cs)) (not_less_is at pos after))

told_singles : (pos at : ℕ) (cs : List ℕ) → at ≤ pos → pos + 1 < at + length cs → is_told pos at (singles cs) ≡ true
unfolding is_told
told_singles pos at [] begun inside = absurd (omega (arith, begun, inside))
told_singles pos at (c ∷ []) begun inside = absurd (omega (arith, begun, inside))
told_singles pos at (c ∷ d ∷ ds) begun inside =
    by (nat_lt at pos) refl (λ before. told_singles pos (at + 1) (d ∷ ds) (omega (arith, before)) (omega (arith, inside)))
  where
    by : (b : Bool) → nat_lt at pos ≡ b → (at < pos → is_told pos (at + 1) (singles (d ∷ ds)) ≡ true) → (if b then is_told pos (at + 1) (singles (d ∷ ds)) else true) ≡ true
    by true before more = more (less_is at pos before)
    by false after more = refl

pub printable_place : (tab pos len column width : ℕ) (cs : List ℕ) → are_printable cs ≡ true → len ≡ length cs → column ≡ min pos len → width ≡ 1 → (column, width) ≡ place_of tab pos 0 0 (clusters cs)
printable_place tab pos len column width cs all long is one =
    let count : column ≡ 0 + min (pos - 0) (length cs) = omega (arith, long, is) in
    rw (clusters_singles cs all, place_singles tab pos 0 0 cs all, count, one) refl

pub printable_told : (pos len : ℕ) (cs : List ℕ) → are_printable cs ≡ true → len ≡ length cs → pos + 1 < len → is_told pos 0 (clusters cs) ≡ true
printable_told pos len cs all long inside = rw (clusters_singles cs all) (told_singles pos 0 cs (omega arith) (omega (arith, inside, long)))

pub printable_chars : (bs : List ℕ) → are_printable bs ≡ true → are_printable (chars bs) ≡ true
printable_chars bs all = rw (chars-printable bs all) all
