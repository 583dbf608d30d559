-- The items and the styles of a part of a block from its start are those of the whole.
use Rattle.std.proofs.Common.{◌≡◌, ℕ, ◌<◌, ◌≤◌, Bool, true, false, not, ◌&&◌, nat_le, nat_lt, List, [], ◌∷◌, ◌++◌, filter, flat_map, refl, sym, ap, ◌∙◌, arith, Some, None, if◌then◌else◌}
use Rattle.std.proofs.lemmas.Bool.Decides.{nat_tests}
use Rattle.std.proofs.lemmas.List.Elements.{filter-append}
use Rattle.stable_order.specs.StableSort.{insert_by, stable_sort}
use Rattle.range_set.specs.declared.ranged.Ranged.{Ranged}
use Rattle.range_set.specs.Updating.{overlaps}
use Rattle.decoration.specs.declared.deco.Deco.{Deco}
use Rattle.decoration.specs.declared.deco.Deco.TheVariants.{Mark, Widget, Replace, Line}
use Rattle.decoration.specs.declared.style.Style.{Style}
use Rattle.selection.specs.declared.range.Range.{Range}
use Rattle.selection.specs.Ranges.{low, high, is_empty}
use Rattle.pieces.specs.Items.{ItemView, item_before, item_in, item_of, items_of, set_items}
use Rattle.pieces.specs.Shading.{covers, mark_of, mark_range, marks_of, reversed, selected, style_at, style_ranges, styled, touching}
use Rattle.pieces.specs.declared.style_range.StyleRange.{StyleRange}
use Rattle.pieces.proofs.Prefixes.{AreEarly, AreLate, is_early}

-- items up to a place stand before the others
abbrev is_late : ℕ → ItemView → Bool
is_late stop x = not (is_early stop x)

early_is : (stop : ℕ) (x : ItemView) → is_early stop x ≡ true → x.place ≤ stop
early_is stop x e = grind (arith, nat_tests)

late_is : (stop : ℕ) (x : ItemView) → is_early stop x ≡ false → stop < x.place
late_is stop x e = grind (arith, nat_tests)

goes_before : (a x : ItemView) → a.place < x.place → item_before a x ≡ true
goes_before a x less = grind (arith, nat_tests)

not_before : (b x : ItemView) → x.place < b.place → item_before b x ≡ false
not_before b x more = grind (arith, nat_tests)

insert-early : (stop : ℕ) (x : ItemView) (firsts lasts : List ItemView) → x.place ≤ stop → AreLate stop lasts → insert_by item_before x (firsts ++ lasts) ≡ insert_by item_before x firsts ++ lasts
insert-early stop x [] [] early late = refl
insert-early stop x [] (b ∷ lasts) early late = rw (not_before b x (omega (arith, early, late.0))) refl
insert-early stop x (a ∷ firsts) lasts early late = by (item_before a x) (insert-early stop x firsts lasts early late) where
  by : (t : Bool) → insert_by item_before x (firsts ++ lasts) ≡ insert_by item_before x firsts ++ lasts → (if t then a ∷ insert_by item_before x (firsts ++ lasts) else x ∷ a ∷ (firsts ++ lasts)) ≡ (if t then a ∷ insert_by item_before x firsts else x ∷ a ∷ firsts) ++ lasts
  by true more = ap (λ (ys : List ItemView). a ∷ ys) more
  by false more = refl

insert-late : (stop : ℕ) (x : ItemView) (firsts lasts : List ItemView) → stop < x.place → AreEarly stop firsts → insert_by item_before x (firsts ++ lasts) ≡ firsts ++ insert_by item_before x lasts
insert-late stop x [] lasts late early = refl
insert-late stop x (a ∷ firsts) lasts late early =
    rw (goes_before a x (omega (arith, late, early.0))) (ap (λ (ys : List ItemView). a ∷ ys) (insert-late stop x firsts lasts late early.1))

early_insert : (stop : ℕ) (x : ItemView) (firsts : List ItemView) → x.place ≤ stop → AreEarly stop firsts → AreEarly stop (insert_by item_before x firsts)
early_insert stop x [] here all = (here, tt)
early_insert stop x (a ∷ firsts) here all = by (item_before a x) (early_insert stop x firsts here all.1) where
  by : (t : Bool) → AreEarly stop (insert_by item_before x firsts) → AreEarly stop (if t then a ∷ insert_by item_before x firsts else x ∷ a ∷ firsts)
  by true more = (all.0, more)
  by false more = (here, all)

late_insert : (stop : ℕ) (x : ItemView) (lasts : List ItemView) → stop < x.place → AreLate stop lasts → AreLate stop (insert_by item_before x lasts)
late_insert stop x [] here all = (here, tt)
late_insert stop x (b ∷ lasts) here all = by (item_before b x) (late_insert stop x lasts here all.1) where
  by : (t : Bool) → AreLate stop (insert_by item_before x lasts) → AreLate stop (if t then b ∷ insert_by item_before x lasts else x ∷ b ∷ lasts)
  by true more = (all.0, more)
  by false more = (here, all)

-- sorted items: those up to a place, and then the others
pub record Split (stop : ℕ) (xs : List ItemView) : Type 0 where
  pub late : List ItemView
  pub is : stable_sort item_before xs ≡ stable_sort item_before (filter (is_early stop) xs) ++ late
  pub are_early : AreEarly stop (stable_sort item_before (filter (is_early stop) xs))
  pub are_late : AreLate stop late

split : (stop : ℕ) (xs : List ItemView) → Split stop xs
split stop [] = record { late = []; is = refl; are_early = tt; are_late = tt }
split stop (x ∷ xs) = by (is_early stop x) refl (split stop xs) where
  first : List ItemView
  first = stable_sort item_before (filter (is_early stop) xs)

  by : (t : Bool) → is_early stop x ≡ t → Split stop xs → Split stop (x ∷ xs)
  by true e s =
      let here = early_is stop x e in
      record {
        late = s.late;
        is = rw (e, s.is) (insert-early stop x first s.late here s.are_late);
        are_early = rw e (early_insert stop x first here s.are_early);
        are_late = s.are_late;
      }
  by false e s =
      let here = late_is stop x e in
      record {
        late = insert_by item_before x s.late;
        is = rw (e, s.is) (insert-late stop x first s.late here s.are_early);
        are_early = rw e s.are_early;
        are_late = late_insert stop x s.late here s.are_late;
      }

abbrev none : List ItemView
none = []

no_item : (t : Bool) → none ≡ (if t then none else none)
no_item true = refl
no_item false = refl

early_item : (stop from : ℕ) (d : Deco) (place to : ℕ) → filter (is_early stop) (item_in from d place to) ≡ (if nat_le place stop then item_in from d place to else [])
early_item stop from (Mark m) place to = no_item (nat_le place stop)
early_item stop from (Line style) place to = no_item (nat_le place stop)
early_item stop from (Widget w) place to = by (nat_le from place) (nat_le place stop) refl where
  x : ItemView
  x = record { place = place; to = place; side = Some w.side; text = w.text; style = w.style }

  by : (t u : Bool) → nat_le place stop ≡ u → filter (is_early stop) (if t then x ∷ [] else []) ≡ (if u then (if t then x ∷ [] else []) else [])
  by true true e = rw e refl
  by true false e = rw e refl
  by false true e = refl
  by false false e = refl
early_item stop from (Replace r) place to = by (nat_lt place to) (nat_le place stop) refl where
  x : ItemView
  x = record { place = place; to = to; side = None; text = r.text; style = r.style }

  by : (t u : Bool) → nat_le place stop ≡ u → filter (is_early stop) (if t then x ∷ [] else []) ≡ (if u then (if t then x ∷ [] else []) else [])
  by true true e = rw e refl
  by true false e = rw e refl
  by false true e = refl
  by false false e = refl

-- the items of a part are those of the whole up to its end
set_part : (stop from to : ℕ) (set : List (Ranged Deco)) → stop ≤ to → filter (is_early stop) (set_items from to set) ≡ set_items from stop set
set_part stop from to [] order = refl
set_part stop from to (d ∷ ds) order = by (nat_le d.from to) (nat_le d.from stop) (nat_le from d.to) refl refl (set_part stop from to ds order) where
  never : (l : ℕ) → nat_le l to ≡ false → nat_le l stop ≡ true → ⊥
  never l a b = grind (arith, nat_tests)

  items : Bool → ℕ → List ItemView
  items t end = flat_map (item_of from) (if t then d ∷ filter (overlaps from end) ds else filter (overlaps from end) ds)

  by : (a b c : Bool) → nat_le d.from to ≡ a → nat_le d.from stop ≡ b → filter (is_early stop) (set_items from to ds) ≡ set_items from stop ds → filter (is_early stop) (items (a && c) to) ≡ items (b && c) stop
  by true true true a_is b_is more =
      filter-append (is_early stop) (item_of from d) (set_items from to ds)
      ∙ (rw (early_item stop from d.value d.from d.to, b_is, more) refl)
  by true false true a_is b_is more =
      filter-append (is_early stop) (item_of from d) (set_items from to ds)
      ∙ (rw (early_item stop from d.value d.from d.to, b_is) more)
  by true true false a_is b_is more = more
  by true false false a_is b_is more = more
  by false false c a_is b_is more = more
  by false true c a_is b_is more = absurd (never d.from a_is b_is)

layers_part : (stop from to : ℕ) (layers : List (List (Ranged Deco))) → stop ≤ to → filter (is_early stop) (flat_map (set_items from to) layers) ≡ flat_map (set_items from stop) layers
layers_part stop from to [] order = refl
layers_part stop from to (set ∷ sets) order =
    filter-append (is_early stop) (set_items from to set) (flat_map (set_items from to) sets)
    ∙ (rw (set_part stop from to set order, layers_part stop from to sets order) refl)

-- the items of the whole block: those of the part, and others after it
pub record ItemsOn (stop from to : ℕ) (layers : List (List (Ranged Deco))) : Type 0 where
  pub late : List ItemView
  pub is : items_of from to layers ≡ items_of from stop layers ++ late
  pub are_early : AreEarly stop (items_of from stop layers)
  pub are_late : AreLate stop late

pub items_on : (stop from to : ℕ) (layers : List (List (Ranged Deco))) → stop ≤ to → ItemsOn stop from to layers
items_on stop from to layers order =
    let s = split stop (flat_map (set_items from to) layers) in
    let own : stable_sort item_before (filter (is_early stop) (flat_map (set_items from to) layers)) ≡ items_of from stop layers =
    ap (stable_sort item_before) (layers_part stop from to layers order) in
    record {
      late = s.late;
      is = s.is ∙ ap (λ (xs : List ItemView). xs ++ s.late) own;
      are_early = rw own at s.are_early;
      are_late = s.are_late;
    }

-- the ranges that cover a character
abbrev covering : ℕ → StyleRange → Bool
covering p r = covers r p

style_covering : (style : Style) (rs : List StyleRange) (p : ℕ) → style_at style rs p ≡ style_at style (filter (covering p) rs) p
unfolding style_at
style_covering style [] p = refl
style_covering style (r ∷ rs) p = by (covers r p) refl (λ s. style_covering s rs p) where
  by : (t : Bool) → covers r p ≡ t → ((s : Style) → style_at s rs p ≡ style_at s (filter (covering p) rs) p) → style_at (styled style r p) rs p ≡ style_at style (if t then r ∷ filter (covering p) rs else filter (covering p) rs) p
  by true e more = more (styled style r p)
  by false e more = rw e (more style)

past_mark : (p stop : ℕ) (d : Deco) (from to : ℕ) → p < stop → nat_le from stop ≡ false → filter (covering p) (mark_range d from to) ≡ []
past_mark p stop (Mark m) from to inside late = rw (misses from inside late) refl
  where
    misses : (from : ℕ) → p < stop → nat_le from stop ≡ false → nat_le from p ≡ false
    misses from inside late = grind (arith, nat_tests)
past_mark p stop (Line style) from to inside late = refl
past_mark p stop (Widget w) from to inside late = refl
past_mark p stop (Replace r) from to inside late = refl

set_marks : (p stop from to : ℕ) (set : List (Ranged Deco)) → p < stop → stop ≤ to → filter (covering p) (flat_map mark_of (touching from stop set)) ≡ filter (covering p) (flat_map mark_of (touching from to set))
set_marks p stop from to [] inside order = refl
set_marks p stop from to (d ∷ ds) inside order = by (nat_le d.from to) (nat_le d.from stop) (nat_le from d.to) refl refl (set_marks p stop from to ds inside order) where
  never : (l : ℕ) → nat_le l to ≡ false → nat_le l stop ≡ true → ⊥
  never l a b = grind (arith, nat_tests)

  marks : Bool → ℕ → List StyleRange
  marks t end = filter (covering p) (flat_map mark_of (if t then d ∷ filter (overlaps from end) ds else filter (overlaps from end) ds))

  by : (a b c : Bool) → nat_le d.from to ≡ a → nat_le d.from stop ≡ b → filter (covering p) (flat_map mark_of (touching from stop ds)) ≡ filter (covering p) (flat_map mark_of (touching from to ds)) → marks (b && c) stop ≡ marks (a && c) to
  by true true true a_is b_is more =
      filter-append (covering p) (mark_of d) (flat_map mark_of (touching from stop ds))
      ∙ (rw more (sym (filter-append (covering p) (mark_of d) (flat_map mark_of (touching from to ds)))))
  by true false true a_is b_is more =
      more ∙ sym (filter-append (covering p) (mark_of d) (flat_map mark_of (touching from to ds))
      ∙ (rw (past_mark p stop d.value d.from d.to inside b_is) refl))
  by true true false a_is b_is more = more
  by true false false a_is b_is more = more
  by false false c a_is b_is more = more
  by false true c a_is b_is more = absurd (never d.from a_is b_is)

layers_marks : (p stop from to : ℕ) (layers : List (List (Ranged Deco))) → p < stop → stop ≤ to → filter (covering p) (marks_of from stop layers) ≡ filter (covering p) (marks_of from to layers)
unfolding marks_of
layers_marks p stop from to [] inside order = refl
layers_marks p stop from to (set ∷ sets) inside order =
    filter-append (covering p) (marks_of from stop sets) (flat_map mark_of (touching from stop set))
    ∙ (rw (layers_marks p stop from to sets inside order, set_marks p stop from to set inside order)
    (sym (filter-append (covering p) (marks_of from to sets) (flat_map mark_of (touching from to set)))))

one_selected : (p stop from to : ℕ) (r : Range) → p < stop → stop ≤ to → filter (covering p) (selected from stop r) ≡ filter (covering p) (selected from to r)
one_selected p stop from to r inside order = by (not (is_empty r)) (nat_le (low r) stop) (nat_le (low r) to) (nat_le from (high r)) refl refl where
  x : StyleRange
  x = record { from = low r; to = high r; style = reversed }

  never : (l : ℕ) → nat_le l to ≡ false → nat_le l stop ≡ true → ⊥
  never l a b = grind (arith, nat_tests)

  misses : (l : ℕ) → nat_le l stop ≡ false → nat_le l p ≡ false
  misses l late = grind (arith, nat_tests)

  found : Bool → List StyleRange
  found t = filter (covering p) (if t then x ∷ [] else [])

  by : (t b a c : Bool) → nat_le (low r) stop ≡ b → nat_le (low r) to ≡ a → found (t && (b && c)) ≡ found (t && (a && c))
  by false b a c b_is a_is = refl
  by true true true c b_is a_is = refl
  by true false false c b_is a_is = refl
  by true false true false b_is a_is = refl
  by true false true true b_is a_is = rw (misses (low r) b_is) refl
  by true true false c b_is a_is = absurd (never (low r) a_is b_is)

all_selected : (p stop from to : ℕ) (rs : List Range) → p < stop → stop ≤ to → filter (covering p) (flat_map (selected from stop) rs) ≡ filter (covering p) (flat_map (selected from to) rs)
all_selected p stop from to [] inside order = refl
all_selected p stop from to (r ∷ rs) inside order =
    filter-append (covering p) (selected from stop r) (flat_map (selected from stop) rs)
    ∙ (rw (one_selected p stop from to r inside order, all_selected p stop from to rs inside order)
    (sym (filter-append (covering p) (selected from to r) (flat_map (selected from to) rs))))

-- a character of the part has the same style there as in the whole block
pub styles_on : (p stop from to : ℕ) (layers : List (List (Ranged Deco))) (ranges : List Range) (style : Style) → p < stop → stop ≤ to → style_at style (style_ranges from stop layers ranges) p ≡ style_at style (style_ranges from to layers ranges) p
styles_on p stop from to layers ranges style inside order =
    let same : filter (covering p) (style_ranges from stop layers ranges) ≡ filter (covering p) (style_ranges from to layers ranges) =
    filter-append (covering p) (marks_of from stop layers) (flat_map (selected from stop) ranges)
    ∙ (rw (layers_marks p stop from to layers inside order, all_selected p stop from to ranges inside order)
    (sym (filter-append (covering p) (marks_of from to layers) (flat_map (selected from to) ranges)))) in
    style_covering style (style_ranges from stop layers ranges) p
    ∙ (ap (λ (rs : List StyleRange). style_at style rs p) same ∙ sym (style_covering style (style_ranges from to layers ranges) p))
