-- Pages of groups, and builders of them, seen as lists of groups, of chunks and of ranges.
use Rattle.std.proofs.Common.{◌≡◌, ℕ, zero, suc, ◌+◌, ◌^◌, ◌<◌, ◌≤◌, List, [], ◌∷◌, ◌++◌, length, get_or, take, map, refl, sym, ◌∙◌, ap, subst, arith, append_assoc}
use Rattle.std.proofs.lemmas.List.{append-nil, map-append, length-append, take_more}
use Rattle.range_set.specs.Rules.{RangeRules}
use Rattle.range_set.specs.PrivateChunks.{AreGroups, flat, greatest_end, group_content, move, shift, spread}
use Rattle.range_set.specs.PrivatePages.{ArePages, IsPage, further, laid}
use Rattle.range_set.specs.declared.chunk.Placed.{Placed}
use Rattle.range_set.specs.declared.group.PlacedGroup.{PlacedGroup}
use Rattle.range_set.specs.declared.page.Page.{Page}
use Rattle.range_set.specs.declared.page.PlacedPage.{PlacedPage}
use Rattle.range_set.proofs.Chunks.{greatest_shifted, length_shifted}
use Rattle.range_set.proofs.Groups.{flat-moved, flat-spread, flat-spread_append, greatest-append, group_placed}

module _ {T : Type 0} where
  move-twice : (a b : ℕ) (ps : List (Placed T)) → map (move a) (map (move b) ps) ≡ map (move (b + a)) ps
  move-twice a b [] = refl
  move-twice a b (p ∷ ps) =
      let e : p.start + b + a ≡ p.start + (b + a) = omega arith in
      ap (λ n. let q : Placed T = record { start = n; grown = p.grown; chunk = p.chunk } in q ∷ map (move a) (map (move b) ps)) e ∙ ap (λ qs. move (b + a) p ∷ qs) (move-twice a b ps)

  pub spread-further : (by : ℕ) (gs : List (PlacedGroup T)) → spread (map (further by) gs) ≡ map (move by) (spread gs)
  spread-further by [] = refl
  spread-further by (g ∷ gs) =
      ap (λ ps. map (move (g.start + by)) (group_content g).chunks ++ ps) (spread-further by gs)
      ∙ (ap (λ ps. ps ++ map (move by) (spread gs)) (sym (move-twice by g.start (group_content g).chunks))
      ∙ sym (map-append (move by) (map (move g.start) (group_content g).chunks) (spread gs)))

  pub flat-further : (by : ℕ) (gs : List (PlacedGroup T)) → flat (spread (map (further by) gs)) ≡ map (shift by) (flat (spread gs))
  flat-further by gs = ap flat (spread-further by gs) ∙ flat-moved by (spread gs)

  pub laid-append : (ps qs : List (PlacedPage T)) → laid (ps ++ qs) ≡ laid ps ++ laid qs
  laid-append [] qs = refl
  laid-append (p ∷ ps) qs =
      ap (λ gs. map (further p.start) p.page.value.groups.items ++ gs) (laid-append ps qs)
      ∙ sym (append_assoc (map (further p.start) p.page.value.groups.items) (laid ps) (laid qs))

  pub laid-push : (ps : List (PlacedPage T)) (p : PlacedPage T) → laid (ps ++ p ∷ []) ≡ laid ps ++ map (further p.start) p.page.value.groups.items
  laid-push ps p = laid-append ps (p ∷ []) ∙ ap (λ gs. laid ps ++ gs) (append-nil (map (further p.start) p.page.value.groups.items))

  -- the ranges of a page at its place, and of the pages after it
  pub flat-laid : (p : PlacedPage T) (ps : List (PlacedPage T)) → flat (spread (laid (p ∷ ps))) ≡ map (shift p.start) (flat (spread p.page.value.groups.items)) ++ flat (spread (laid ps))
  flat-laid p ps =
      flat-spread_append (map (further p.start) p.page.value.groups.items) (laid ps) ∙ ap (λ rs. rs ++ flat (spread (laid ps))) (flat-further p.start p.page.value.groups.items)

  pub flat-laid_push : (ps : List (PlacedPage T)) (p : PlacedPage T) → flat (spread (laid (ps ++ p ∷ []))) ≡ flat (spread (laid ps)) ++ map (shift p.start) (flat (spread p.page.value.groups.items))
  flat-laid_push ps p =
      ap (λ gs. flat (spread gs)) (laid-push ps p)
      ∙ (flat-spread_append (laid ps) (map (further p.start) p.page.value.groups.items) ∙ ap (λ rs. flat (spread (laid ps)) ++ rs) (flat-further p.start p.page.value.groups.items))

  pub laid_take : (ps : List (PlacedPage T)) (i : ℕ) (p : PlacedPage T) → i < length ps → p ≡ get_or ps i p → take (i + 1) ps ≡ take i ps ++ p ∷ []
  laid_take ps i p l e = take_more ps i p l ∙ ap (λ x. take i ps ++ x ∷ []) (sym e)

  -- groups with ranges are some groups
  pub some_group : (gs : List (PlacedGroup T)) → 1 ≤ length (flat (spread gs)) → 1 ≤ length gs
  some_group [] some = some
  some_group (g ∷ gs) some = omega arith

  -- groups without chunks
  pub no_groups : (gs : List (PlacedGroup T)) → length gs ≡ 0 → gs ≡ []
  no_groups [] h = refl
  no_groups (g ∷ gs) h = absurd (omega (arith, h))

module _ {T : Type 0} (rules : RangeRules T) where
  pub length_further : (by : ℕ) (gs : List (PlacedGroup T)) → length (flat (spread (map (further by) gs))) ≡ length (flat (spread gs))
  length_further by gs = ap length (flat-further by gs) ∙ length_shifted rules by (flat (spread gs))

  pub AreGroups-append : (gs hs : List (PlacedGroup T)) → AreGroups rules gs → AreGroups rules hs → AreGroups rules (gs ++ hs)
  AreGroups-append [] hs h k = k
  AreGroups-append (g ∷ gs) hs h k = (h.0, AreGroups-append gs hs h.1 k)

  -- the hull of a group lies in that of its page
  pub hull_first : (g : PlacedGroup T) (gs : List (PlacedGroup T)) → AreGroups rules (g ∷ gs) → g.start + (group_content g).reach ≤ greatest_end (flat (spread (g ∷ gs)))
  hull_first g gs h =
      let a = ap greatest_end (flat-spread g gs) ∙ greatest-append (map (shift g.start) (flat (group_content g).chunks)) (flat (spread gs)) in
      let b = greatest_shifted g.start (flat (group_content g).chunks) h.0.1 in
      let c = h.0.0.reach in
      omega (arith, a, b, c)

  pub hull_others : (g : PlacedGroup T) (gs : List (PlacedGroup T)) → greatest_end (flat (spread gs)) ≤ greatest_end (flat (spread (g ∷ gs)))
  hull_others g gs = let a = ap greatest_end (flat-spread g gs) ∙ greatest-append (map (shift g.start) (flat (group_content g).chunks)) (flat (spread gs)) in omega (arith, a)

  pub hull_at_group : (gs : List (PlacedGroup T)) (i : ℕ) (g : PlacedGroup T) → i < length gs → g ≡ get_or gs i g → AreGroups rules gs → g.start + (group_content g).reach ≤ greatest_end (flat (spread gs))
  hull_at_group [] i g l e h = absurd (omega arith)
  hull_at_group (q ∷ gs) zero g l e h = subst (λ (x : PlacedGroup T). x.start + (group_content x).reach ≤ greatest_end (flat (spread (q ∷ gs)))) (sym e) (hull_first q gs h)
  hull_at_group (q ∷ gs) (suc i) g l e h = let k = hull_at_group gs i g (omega arith) e h.1 in let o = hull_others q gs in omega (arith, k, o)

  -- groups whose ranges end in a document are groups further on
  pub groups_further : (by n : ℕ) (gs : List (PlacedGroup T)) → AreGroups rules gs → greatest_end (flat (spread gs)) ≤ n → by + n < 2 ^ 32 → AreGroups rules (map (further by) gs)
  groups_further by n [] h l m = tt
  groups_further by n (g ∷ gs) h l m =
      let a = hull_first g gs h in
      let b = hull_others g gs in (
        (group_placed rules g.start (g.start + by) (group_content g) h.0.0 (omega (arith, a, l, m)), h.0.1),
        groups_further by n gs h.1 (omega (arith, b, l)) m,
      )

  -- a page at another place
  pub page_placed : (start at : ℕ) (page : Page T) → IsPage rules start page → at + page.reach < 2 ^ 32 → IsPage rules at page
  page_placed start at page h l = record {
    groups = h.groups;
    first = h.first;
    count = h.count;
    reach = h.reach;
    turned = h.turned;
    points = h.points;
    fits = l;
  }

  pub page_opened : (start : ℕ) (page : Page T) → IsPage rules start page → AreGroups rules (map (further start) page.groups.items)
  page_opened start page h = let e = h.reach in groups_further start page.reach page.groups.items h.groups (omega (arith, e)) h.fits

  pub ArePages-push : (ps : List (PlacedPage T)) (p : PlacedPage T) → ArePages rules ps → IsPage rules p.start p.page.value → 1 ≤ length (flat (spread p.page.value.groups.items)) → ArePages rules (ps ++ p ∷ [])
  ArePages-push [] p h k some = ((k, some), tt)
  ArePages-push (q ∷ ps) p h k some = (h.0, ArePages-push ps p h.1 k some)

  pub page-at : (ps : List (PlacedPage T)) (i : ℕ) (p : PlacedPage T) → i < length ps → p ≡ get_or ps i p → ArePages rules ps → IsPage rules p.start p.page.value × (1 ≤ length (flat (spread p.page.value.groups.items)))
  page-at [] i p l e h = absurd (omega arith)
  page-at (q ∷ ps) zero p l e h = subst (λ (x : PlacedPage T). IsPage rules x.start x.page.value × (1 ≤ length (flat (spread x.page.value.groups.items)))) (sym e) h.0
  page-at (q ∷ ps) (suc i) p l e h = page-at ps i p (omega arith) e h.1

  some_groups : (g : PlacedGroup T) (gs : List (PlacedGroup T)) → AreGroups rules (g ∷ gs) → 1 ≤ length (flat (spread (g ∷ gs)))
  some_groups g gs h =
      let a = ap length (flat-spread g gs) ∙ length-append (map (shift g.start) (flat (group_content g).chunks)) (flat (spread gs)) in
      let b = length_shifted rules g.start (flat (group_content g).chunks) in
      let c = h.0.1 in
      omega (arith, a, b, c)

  pub spread_some : (gs : List (PlacedGroup T)) → AreGroups rules gs → 1 ≤ length gs → 1 ≤ length (flat (spread gs))
  spread_some [] h some = absurd (omega arith)
  spread_some (g ∷ gs) h some = some_groups g gs h
