-- A place between groups of pages, and the groups after it.
use Rattle.std.proofs.Common.{◌≡◌, ℕ, ◌+◌, ◌<◌, ◌≤◌, false, List, [], ◌∷◌, ◌++◌, length, map, refl, sym, ◌∙◌, ap, subst, arith, append_assoc}
use Rattle.std.proofs.lemmas.List.{length-append}
use Rattle.range_set.specs.Rules.{RangeRules}
use Rattle.range_set.specs.Points.{points_of}
use Rattle.range_set.specs.PrivateChunks.{AreGroups, ArePassed, IsGroup, flat, group_content, move, shift, spread}
use Rattle.range_set.specs.PrivatePages.{AreLast, ArePages, AreGroupsLeft, PlacesFirst, PlacesGroups, PlacesPage, further, laid}
use Rattle.range_set.specs.declared.chunk.Placed.{Placed}
use Rattle.range_set.specs.declared.group.PlacedGroup.{PlacedGroup}
use Rattle.range_set.specs.declared.page.PlacedPage.{PlacedPage}
use Rattle.range_set.proofs.Chunks.{end_by_greatest}
use Rattle.range_set.proofs.Groups.{flat-spread_append, spread-append}
use Rattle.range_set.proofs.Pages.{flat-further, no_groups, page_opened, some_group}
use Rattle.range_set.proofs.Passing.{HaveNoPoint, no_points, passed_hull}

module _ {T : Type 0} where
  pub last_none : (gs : List (PlacedGroup T)) → AreLast gs gs
  last_none gs = record { taken = []; is = refl }

  pub last_more : (gs here more later : List (PlacedGroup T)) → here ≡ more ++ later → AreLast gs here → AreLast gs later
  last_more gs here more later e h = record { taken = h.taken ++ more; is = h.is ∙ (ap (λ rs. h.taken ++ rs) e ∙ sym (append_assoc h.taken more later)) }

  pub last_fewer : (gs rest : List (PlacedGroup T)) → AreLast gs rest → length rest ≤ length gs
  last_fewer gs rest h = let e = ap length h.is ∙ length-append h.taken rest in omega (arith, e)

  pub last_fewer_chunks : (gs rest : List (PlacedGroup T)) → AreLast gs rest → length (spread rest) ≤ length (spread gs)
  last_fewer_chunks gs rest h = let e = ap (λ hs. length (spread hs)) h.is ∙ (ap length (spread-append h.taken rest) ∙ length-append (spread h.taken) (spread rest)) in omega (arith, e)

  pub last_fewer_ranges : (gs rest : List (PlacedGroup T)) → AreLast gs rest → length (flat (spread rest)) ≤ length (flat (spread gs))
  last_fewer_ranges gs rest h =
      let e = ap (λ hs. length (flat (spread hs))) h.is ∙ (ap length (flat-spread_append h.taken rest) ∙ length-append (flat (spread h.taken)) (flat (spread rest))) in
      omega (arith, e)

module _ {T : Type 0} (rules : RangeRules T) where
  -- the first group of the page that comes next
  pub first_of_page : (base : ℕ) (groups : List (PlacedGroup T)) (pages : List (PlacedPage T)) (p : PlacedPage T) (ps : List (PlacedPage T)) (g : PlacedGroup T) (gs : List (PlacedGroup T))
      → length groups ≡ 0 → pages ≡ p ∷ ps → p.page.value.groups.items ≡ g ∷ gs → AreGroupsLeft rules base groups pages
      → PlacesFirst rules (map (further base) groups ++ laid pages) (p.start + g.start) g (map (further p.start) gs ++ laid ps) × AreGroupsLeft rules p.start gs ps
  first_of_page base groups pages p ps g gs none some first h =
      let all = subst (ArePages rules) some h.others in
      let opened = subst (λ hs. AreGroups rules (map (further p.start) hs)) first (page_opened rules p.start p.page.value all.0.0) in
      let n : g.start + p.start ≡ p.start + g.start = omega arith in
      let is : map (further base) groups ++ laid pages ≡ further p.start g ∷ (map (further p.start) gs ++ laid ps) =
      ap (λ hs. map (further base) hs ++ laid pages) (no_groups groups none) ∙ (ap laid some ∙ ap (λ hs. map (further p.start) hs ++ laid ps) first) in (
        record {
          is = is ∙ ap (λ k. let q : PlacedGroup T = record { start = k; grown = g.grown; group = g.group } in q ∷ (map (further p.start) gs ++ laid ps)) n;
          first = subst (λ k. IsGroup rules k (group_content g)) n opened.0.0;
          some = opened.0.1;
        },
        record { opened = opened.1; others = all.1 },
      )

  -- the groups of the page that comes next
  pub open_page : (base : ℕ) (groups : List (PlacedGroup T)) (pages : List (PlacedPage T)) (p : PlacedPage T) (ps : List (PlacedPage T)) → length groups ≡ 0 → pages ≡ p ∷ ps → AreGroupsLeft rules base groups pages
      → PlacesGroups rules (map (further base) groups ++ laid pages) p.start p.page.value.groups.items ps
  open_page base groups pages p ps none some h =
      let all = subst (ArePages rules) some h.others in
      record {
        is = ap (λ hs. map (further base) hs ++ laid pages) (no_groups groups none) ∙ ap laid some;
        left = record { opened = page_opened rules p.start p.page.value all.0.0; others = all.1 };
        some = some_group p.page.value.groups.items all.0.1;
      }

  -- the ranges of the page that comes next, and of the groups after it
  pub ranges_of_page : (groups : List (PlacedGroup T)) (p : PlacedPage T) (others : List (PlacedGroup T)) → PlacesPage rules groups p others
      → flat (spread groups) ≡ map (shift p.start) (flat (spread p.page.value.groups.items)) ++ flat (spread others)
  ranges_of_page groups p others h =
      let items = p.page.value.groups.items in
      ap (λ gs. flat (spread gs)) h.is ∙ (flat-spread_append (map (further p.start) items) others ∙ ap (λ rs. rs ++ flat (spread others)) (flat-further p.start items))

  pub last_page : (gs groups : List (PlacedGroup T)) (p : PlacedPage T) (others : List (PlacedGroup T)) → PlacesPage rules groups p others → AreLast gs groups → AreLast gs others
  last_page gs groups p others h k = last_more gs groups (map (further p.start) p.page.value.groups.items) others h.is k

  pub passed_page : (place : ℕ) (gs groups : List (PlacedGroup T)) (p : PlacedPage T) (others : List (PlacedGroup T)) → PlacesPage rules groups p others → p.start + p.page.value.reach < place
      → ArePassed place (spread gs) (spread groups) → ArePassed place (spread gs) (spread others)
  passed_page place gs groups p others h l k =
      let rs = flat (spread p.page.value.groups.items) in
      let e = h.page.reach in
      passed_hull place p.start p.page.value.reach (spread gs) (spread groups) (spread others) rs (ranges_of_page groups p others h) (end_by_greatest rs p.page.value.reach (omega (arith, e))) l k

  pub no_point_page : (gs groups : List (PlacedGroup T)) (p : PlacedPage T) (others : List (PlacedGroup T)) → PlacesPage rules groups p others → p.page.value.has_point ≡ false
      → points_of rules (flat (spread groups)) ≡ points_of rules (flat (spread gs)) → points_of rules (flat (spread others)) ≡ points_of rules (flat (spread gs))
  no_point_page gs groups p others h none k =
      let rs = flat (spread p.page.value.groups.items) in
      sym (no_points rules p.start rs (flat (spread others)) (sym h.page.points ∙ none)) ∙ (ap (points_of rules) (sym (ranges_of_page groups p others h)) ∙ k)

  -- fewer chunks or groups are left where the next group is opened or passed over
  pub open_fewer : (base : ℕ) (chunks : List (Placed T)) (groups rest : List (PlacedGroup T)) (start : ℕ) (placed : PlacedGroup T) (others : List (PlacedGroup T)) → AreLast groups rest → PlacesFirst rules rest start placed others
      → length (map (move start) (group_content placed).chunks ++ spread others) + length others < length (map (move base) chunks ++ spread groups) + length groups
  open_fewer base chunks groups rest start placed others last h =
      let a = last_fewer groups rest last in
      let b = last_fewer_chunks groups rest last in
      let m = ap length h.is in
      let n = ap (λ gs. length (spread gs)) h.is in
      let l = length-append (map (move base) chunks) (spread groups) in
      omega (arith, a, b, m, n, l)

  pub pass_fewer : (base : ℕ) (chunks : List (Placed T)) (groups rest : List (PlacedGroup T)) (start : ℕ) (placed : PlacedGroup T) (others : List (PlacedGroup T)) → AreLast groups rest → PlacesFirst rules rest start placed others
      → length (map (move base) chunks ++ spread others) + length others < length (map (move base) chunks ++ spread groups) + length groups
  pass_fewer base chunks groups rest start placed others last h =
      let a = last_fewer groups rest last in
      let b = last_fewer_chunks groups rest last in
      let m = ap length h.is in
      let n = ap (λ gs. length (spread gs)) h.is ∙ length-append (map (move start) (group_content placed).chunks) (spread others) in
      let l = length-append (map (move base) chunks) (spread groups) in
      let k = length-append (map (move base) chunks) (spread others) in
      omega (arith, a, b, m, n, l, k)

  -- groups that were passed over have no more ranges left
  pub no_point_rest : (groups rest : List (PlacedGroup T)) → AreLast groups rest → points_of rules (flat (spread rest)) ≡ points_of rules (flat (spread groups)) → HaveNoPoint rules (spread groups) (spread rest)
  no_point_rest groups rest last kept = record { kept = kept; fewer = last_fewer_ranges groups rest last }
