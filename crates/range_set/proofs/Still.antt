-- Changes that keep all leave ranges as they are.
use Rattle.std.proofs.Common.{◌≡◌, ℕ, ◌+◌, ◌-◌, ◌<◌, ◌≤◌, Bool, true, false, ◌||◌, cond, ltb, List, [], ◌∷◌, length, get_or, take, map, filter_map, Some, None, refl, sym, ap, ◌∙◌, arith}
use Rattle.std.proofs.lemmas.Bool.Decides.{nat_tests}
use Rattle.std.proofs.lemmas.List.Folds.{list_any-append}
use Rattle.std.specs.List.{cons_option, list_any}
use Rattle.change_desc.specs.declared.section.Section.TheVariants.{Keep, Replace}
use Rattle.change_desc.specs.Ranges.{changes_nothing, meets, replaced_from}
use Rattle.change_desc.specs.Sections.{old_size}
use Rattle.stable_order.specs.StableSort.{stable_sort}
use Rattle.stable_order.proofs.StableSort.{stable_sort-risen}
use Rattle.range_set.specs.Rules.{RangeRules}
use Rattle.range_set.specs.Order.{AllForward, before, first_fault}
use Rattle.range_set.specs.Ranking.{before-order}
use Rattle.range_set.specs.Mapping.{Changes, is_turned, map_ranges, moved}
use Rattle.range_set.specs.PrivateChunks.{flat, shift, spread}
use Rattle.range_set.specs.PrivatePages.{ArePages, laid}
use Rattle.range_set.specs.declared.ranged.Ranged.{Ranged}
use Rattle.range_set.specs.declared.page.PlacedPage.{PlacedPage}
use Rattle.range_set.proofs.Chunks.{not_less}
use Rattle.range_set.proofs.Clear.{clear_place}
use Rattle.range_set.proofs.Each.{Within}
use Rattle.range_set.proofs.Groups.{turned_any}
use Rattle.range_set.proofs.Pages.{flat-laid_push, laid_take, page-at}
use Rattle.range_set.proofs.RangeOrder.{forward-no_fault, rises-no_fault}
use Rattle.range_set.proofs.Walked.{clear_range}

-- empty changes replace nothing
pub none_replaced : (a b : ℕ) (s : Changes) → changes_nothing s ≡ true → replaced_from a b s ≡ []
none_replaced a b [] h = refl
none_replaced a b (Keep n ∷ s) h = none_replaced (a + n) (b + n) s h
none_replaced a b (Replace n t ∷ s) h = cc

-- and leave each place where it is
pub same_place : (s : Changes) (p : ℕ) → changes_nothing s ≡ true → clear_place s p ≡ p
same_place [] p h = refl
same_place (Keep n ∷ s) p h = at (ltb p n) refl (same_place s (p - n) h)
  where
    at : (b : Bool) → ltb p n ≡ b → clear_place s (p - n) ≡ p - n → cond b p (n + clear_place s (p - n)) ≡ p
    at true e f = refl
    at false e f = let l : n ≤ p = grind (arith, nat_tests) in omega (arith, f, l)
same_place (Replace n t ∷ s) p h = cc

or_left : (a b : Bool) → (a || b) ≡ false → a ≡ false
or_left false b h = refl
or_left true b h = h

or_right : (a b : Bool) → (a || b) ≡ false → b ≡ false
or_right false b h = h
or_right true b h = cc

module _ {T : Type 0} (rules : RangeRules T) where
  module _ (d : Changes) where
    moved_still : (rs : List (Ranged T)) → changes_nothing d ≡ true → AllForward rs → list_any (is_turned rules) rs ≡ false → Within (old_size d) rs → filter_map (moved rules d) rs ≡ rs
    moved_still [] h f t w = refl
    moved_still (r ∷ rs) h f t w =
        let forward = not_less r.to r.from f.0 in
        let clear = clear_range rules d r forward w.0.1 (or_left (is_turned rules r) (list_any (is_turned rules) rs) t) (ap (list_any (meets r.from r.to)) (none_replaced 0 0 d h)) in
        let place = same_place d r.from h in
        let end : clear_place d r.from + (r.to - r.from) ≡ r.to = omega (arith, place, forward) in
        let one : moved rules d r ≡ Some r =
        clear.moves
        ∙ (ap (λ n. let q : Ranged T = record { from = n; to = clear_place d r.from + (r.to - r.from); value = r.value } in Some q) place
        ∙ ap (λ n. let q : Ranged T = record { from = r.from; to = n; value = r.value } in Some q) end) in
        ap (λ o. cons_option o (filter_map (moved rules d) rs)) one
        ∙ ap (λ xs. r ∷ xs) (moved_still rs h f.1 (or_right (is_turned rules r) (list_any (is_turned rules) rs) t) w.1)

    pub map_still : (rs : List (Ranged T)) → changes_nothing d ≡ true → first_fault rules rs ≡ None → list_any (is_turned rules) rs ≡ false → Within (old_size d) rs → map_ranges rules d rs ≡ rs
    map_still rs h n t w =
        ap (stable_sort (before rules)) (moved_still rs h (forward-no_fault rules 0 None rs n) t w) ∙ stable_sort-risen (before rules) (before-order rules) rs (rises-no_fault rules rs n)

  -- one more page in which nothing is turned
  pub turned_push : (ps : List (PlacedPage T)) (i : ℕ) (p : PlacedPage T) → i < length ps → p ≡ get_or ps i p → ArePages rules ps → p.page.value.is_turned ≡ false → list_any (is_turned rules) (flat (spread (laid (take i ps)))) ≡ false
      → list_any (is_turned rules) (flat (spread (laid (take (i + 1) ps)))) ≡ false
  turned_push ps i p l e h none before_it =
      let here = (page-at rules ps i p l e h).0 in
      let ranges = flat (spread p.page.value.groups.items) in
      let more = ap (λ qs. flat (spread (laid qs))) (laid_take ps i p l e) ∙ flat-laid_push (take i ps) p in
      ap (list_any (is_turned rules)) more
      ∙ (list_any-append (is_turned rules) (flat (spread (laid (take i ps)))) (map (shift p.start) ranges)
      ∙ (ap (λ b. b || list_any (is_turned rules) (map (shift p.start) ranges)) before_it ∙ (turned_any rules p.start ranges ∙ (sym here.turned ∙ none))))
