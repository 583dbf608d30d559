-- Pages that are made at once of groups in order, and lists of groups that grow.
use Rattle.std.proofs.Common.{◌≡◌, ℕ, zero, suc, ◌+◌, ◌-◌, ◌^◌, ◌<◌, ◌≤◌, max, ◌||◌, List, [], ◌∷◌, ◌++◌, length, get_or, take, map, refl, sym, ◌∙◌, ap, arith}
use Rattle.std.proofs.lemmas.List.{length-append, map-append, take_more}
use Rattle.std.proofs.lemmas.List.Elements.{All-head, All-push, All-tail}
use Rattle.std.proofs.lemmas.List.Folds.{list_any-append}
use Rattle.std.specs.Prelude.{All}
use Rattle.std.specs.List.{list_any}
use Rattle.range_set.specs.Rules.{RangeRules}
use Rattle.range_set.specs.Mapping.{is_turned}
use Rattle.range_set.specs.Points.{stands}
use Rattle.range_set.specs.PrivateChunks.{AreGroups, IsGroup, first_start, flat, greatest_end, group_content, shift, spread}
use Rattle.range_set.specs.PrivatePages.{AreGrowing, IsPage, further}
use Rattle.range_set.specs.declared.ranged.Ranged.{Ranged}
use Rattle.range_set.specs.declared.group.PlacedGroup.{PlacedGroup}
use Rattle.range_set.specs.declared.page.Page.{Page}
use Rattle.range_set.proofs.Chunks.{greatest_shifted, length_shifted}
use Rattle.range_set.proofs.Groups.{AreGroups-push, flat-spread, flat-spread_push, greatest-append, group_placed, points_any, turned_any}

module _ {T : Type 0} (rules : RangeRules T) where
  -- a group that counts from a place
  abbrev pub counted_group : ℕ → PlacedGroup T → PlacedGroup T
  counted_group start g = record { start = g.start - start; grown = g.grown; group = g.group }

  pub group_item : (gs : List (PlacedGroup T)) (i : ℕ) (g : PlacedGroup T) → i < length gs → AreGroups rules gs
      → IsGroup rules (get_or gs i g).start (group_content (get_or gs i g)) × (1 ≤ length (flat (group_content (get_or gs i g)).chunks))
  group_item [] i g l h = absurd (omega arith)
  group_item (q ∷ gs) zero g l h = h.0
  group_item (q ∷ gs) (suc i) g l h = group_item gs i g (omega arith) h.1

  groups_more : (gs : List (PlacedGroup T)) (i : ℕ) (g : PlacedGroup T) → i < length gs
      → flat (spread (take (i + 1) gs)) ≡ flat (spread (take i gs)) ++ map (shift (get_or gs i g).start) (flat (group_content (get_or gs i g)).chunks)
  groups_more gs i g l = ap (λ hs. flat (spread hs)) (take_more gs i g l) ∙ flat-spread_push (take i gs) (get_or gs i g)

  pub count_more : (gs : List (PlacedGroup T)) (i : ℕ) (g : PlacedGroup T) → i < length gs
      → length (flat (spread (take (i + 1) gs))) ≡ length (flat (spread (take i gs))) + length (flat (group_content (get_or gs i g)).chunks)
  count_more gs i g l =
      let q = get_or gs i g in
      let a = ap length (groups_more gs i g l) ∙ length-append (flat (spread (take i gs))) (map (shift q.start) (flat (group_content q).chunks)) in
      let b = length_shifted rules q.start (flat (group_content q).chunks) in
      omega (arith, a, b)

  pub turned_more : (gs : List (PlacedGroup T)) (i : ℕ) (g : PlacedGroup T) → i < length gs → IsGroup rules (get_or gs i g).start (group_content (get_or gs i g))
      → list_any (is_turned rules) (flat (spread (take (i + 1) gs))) ≡ (list_any (is_turned rules) (flat (spread (take i gs))) || (group_content (get_or gs i g)).is_turned)
  turned_more gs i g l h =
      let q = get_or gs i g in
      ap (list_any (is_turned rules)) (groups_more gs i g l)
      ∙ (list_any-append (is_turned rules) (flat (spread (take i gs))) (map (shift q.start) (flat (group_content q).chunks))
      ∙ ap (λ b. list_any (is_turned rules) (flat (spread (take i gs))) || b) (turned_any rules q.start (flat (group_content q).chunks) ∙ sym h.turned))

  pub points_more : (gs : List (PlacedGroup T)) (i : ℕ) (g : PlacedGroup T) → i < length gs → IsGroup rules (get_or gs i g).start (group_content (get_or gs i g))
      → list_any (stands rules) (flat (spread (take (i + 1) gs))) ≡ (list_any (stands rules) (flat (spread (take i gs))) || (group_content (get_or gs i g)).has_point)
  points_more gs i g l h =
      let q = get_or gs i g in
      ap (list_any (stands rules)) (groups_more gs i g l)
      ∙ (list_any-append (stands rules) (flat (spread (take i gs))) (map (shift q.start) (flat (group_content q).chunks))
      ∙ ap (λ b. list_any (stands rules) (flat (spread (take i gs))) || b) (points_any rules q.start (flat (group_content q).chunks) ∙ sym h.points))

  pub page_reach_more : (start : ℕ) (gs : List (PlacedGroup T)) (i : ℕ) (g : PlacedGroup T) → i < length gs → IsGroup rules (get_or gs i g).start (group_content (get_or gs i g))
      → 1 ≤ length (flat (group_content (get_or gs i g)).chunks)
      → greatest_end (flat (spread (map (counted_group start) (take (i + 1) gs))))
      ≡ max (greatest_end (flat (spread (map (counted_group start) (take i gs))))) ((get_or gs i g).start - start + (group_content (get_or gs i g)).reach)
  page_reach_more start gs i g l h some =
      let q = get_or gs i g in
      let f = counted_group start in
      let ranges = map (shift (q.start - start)) (flat (group_content q).chunks) in
      let is : flat (spread (map f (take (i + 1) gs))) ≡ flat (spread (map f (take i gs))) ++ ranges =
      ap (λ hs. flat (spread (map f hs))) (take_more gs i g l) ∙ (ap (λ hs. flat (spread hs)) (map-append f (take i gs) (q ∷ [])) ∙ flat-spread_push (map f (take i gs)) (f q)) in
      let a = ap greatest_end is ∙ greatest-append (flat (spread (map f (take i gs)))) ranges in
      let b = greatest_shifted (q.start - start) (flat (group_content q).chunks) some in
      let c = h.reach in
      omega (arith, a, b, c)

  counted_groups : (start : ℕ) (gs : List (PlacedGroup T)) → AreGroups rules gs → AreGroups rules (map (counted_group start) gs)
  counted_groups start [] h = tt
  counted_groups start (g ∷ gs) h =
      let k = h.0.0.fits in
      ((group_placed rules g.start (g.start - start) (group_content g) h.0.0 (omega (arith, k)), h.0.1), counted_groups start gs h.1)

  counted_length : (start : ℕ) (gs : List (PlacedGroup T)) → length (flat (spread (map (counted_group start) gs))) ≡ length (flat (spread gs))
  counted_length start [] = refl
  counted_length start (g ∷ gs) =
      let rs = flat (group_content g).chunks in
      let q = counted_group start g in
      let qs = map (counted_group start) gs in
      let a = ap length (flat-spread q qs) ∙ length-append (map (shift q.start) rs) (flat (spread qs)) in
      let b = ap length (flat-spread g gs) ∙ length-append (map (shift g.start) rs) (flat (spread gs)) in
      let c = length_shifted rules q.start rs in
      let d = length_shifted rules g.start rs in
      let e = counted_length start gs in
      omega (arith, a, b, c, d, e)

  counted_turned : (start : ℕ) (gs : List (PlacedGroup T)) → list_any (is_turned rules) (flat (spread (map (counted_group start) gs))) ≡ list_any (is_turned rules) (flat (spread gs))
  counted_turned start [] = refl
  counted_turned start (g ∷ gs) =
      let rs = flat (group_content g).chunks in
      let q = counted_group start g in
      let qs = map (counted_group start) gs in
      ap (list_any (is_turned rules)) (flat-spread q qs)
      ∙ (list_any-append (is_turned rules) (map (shift q.start) rs) (flat (spread qs))
      ∙ (ap (λ b. b || list_any (is_turned rules) (flat (spread qs))) (turned_any rules q.start rs ∙ sym (turned_any rules g.start rs))
      ∙ (ap (λ b. list_any (is_turned rules) (map (shift g.start) rs) || b) (counted_turned start gs)
      ∙ (sym (list_any-append (is_turned rules) (map (shift g.start) rs) (flat (spread gs))) ∙ ap (list_any (is_turned rules)) (sym (flat-spread g gs))))))

  counted_points : (start : ℕ) (gs : List (PlacedGroup T)) → list_any (stands rules) (flat (spread (map (counted_group start) gs))) ≡ list_any (stands rules) (flat (spread gs))
  counted_points start [] = refl
  counted_points start (g ∷ gs) =
      let rs = flat (group_content g).chunks in
      let q = counted_group start g in
      let qs = map (counted_group start) gs in
      ap (list_any (stands rules)) (flat-spread q qs)
      ∙ (list_any-append (stands rules) (map (shift q.start) rs) (flat (spread qs))
      ∙ (ap (λ b. b || list_any (stands rules) (flat (spread qs))) (points_any rules q.start rs ∙ sym (points_any rules g.start rs))
      ∙ (ap (λ b. list_any (stands rules) (map (shift g.start) rs) || b) (counted_points start gs)
      ∙ (sym (list_any-append (stands rules) (map (shift g.start) rs) (flat (spread gs))) ∙ ap (list_any (stands rules)) (sym (flat-spread g gs))))))

  first_of : (rs later : List (Ranged T)) (at : ℕ) → 1 ≤ length rs → first_start rs ≡ 0 → first_start (map (shift at) rs ++ later) ≡ at
  first_of [] later at some e = absurd (omega arith)
  first_of (r ∷ rs) later at some e = omega (arith, e)

  counted_first : (start : ℕ) (gs : List (PlacedGroup T)) → AreGroups rules gs → (1 ≤ length gs → first_start (flat (spread gs)) ≡ start) → first_start (flat (spread (map (counted_group start) gs))) ≡ 0
  counted_first start [] h f = refl
  counted_first start (g ∷ gs) h f =
      let rs = flat (group_content g).chunks in
      let qs = map (counted_group start) gs in
      let a = ap first_start (flat-spread (counted_group start g) qs) ∙ first_of rs (flat (spread qs)) (g.start - start) h.0.1 h.0.0.first in
      let b = ap first_start (flat-spread g gs) ∙ first_of rs (flat (spread gs)) g.start h.0.1 h.0.0.first in
      let c = f (omega arith) in
      omega (arith, a, b, c)

  placed_back : (start : ℕ) (g : PlacedGroup T) → start ≤ g.start → further start (counted_group start g) ≡ g
  placed_back start g l =
      let e : g.start - start + start ≡ g.start = omega arith in
      ap (λ n. let q : PlacedGroup T = record { start = n; grown = g.grown; group = g.group } in q) e

  pub groups_back : (start : ℕ) (gs : List (PlacedGroup T)) → All (λ g. start ≤ g.start) gs → map (further start) (map (counted_group start) gs) ≡ gs
  groups_back start [] h = refl
  groups_back start (g ∷ gs) h =
      ap (λ q. q ∷ map (further start) (map (counted_group start) gs)) (placed_back start g (All-head (λ q. start ≤ q.start) g gs h)) ∙ ap (λ qs. g ∷ qs) (groups_back start gs (All-tail (λ q. start ≤ q.start) g gs h))

  pub whole_page : (start : ℕ) (page : Page T) (gs : List (PlacedGroup T)) → page.groups.items ≡ map (counted_group start) gs → AreGrowing rules start gs → page.count ≡ length (flat (spread gs))
      → page.reach ≡ greatest_end (flat (spread (map (counted_group start) gs))) → page.is_turned ≡ list_any (is_turned rules) (flat (spread gs)) → page.has_point ≡ list_any (stands rules) (flat (spread gs))
      → start + page.reach < 2 ^ 32 → IsPage rules start page
  whole_page start page gs e growing count reach turned points fits = record {
    groups = rw e (counted_groups start gs growing.groups);
    first = rw e (counted_first start gs growing.groups growing.first);
    count = count ∙ (sym (counted_length start gs) ∙ ap (λ qs. length (flat (spread qs))) (sym e));
    reach = reach ∙ ap (λ qs. greatest_end (flat (spread qs))) (sym e);
    turned = turned ∙ (sym (counted_turned start gs) ∙ ap (λ qs. list_any (is_turned rules) (flat (spread qs))) (sym e));
    points = points ∙ (sym (counted_points start gs) ∙ ap (λ qs. list_any (stands rules) (flat (spread qs))) (sym e));
    fits = fits;
  }

  -- one more group is put to those that grow
  pub grown_more : (start : ℕ) (gs : List (PlacedGroup T)) (g : PlacedGroup T) → AreGrowing rules start gs → IsGroup rules g.start (group_content g) → 1 ≤ length (flat (group_content g).chunks) → start ≤ g.start → (gs ≡ [] → g.start ≡ start)
      → length (flat (spread gs)) + length (flat (group_content g).chunks) < 2 ^ 64 → AreGrowing rules start (gs ++ g ∷ [])
  grown_more start gs g h group some l f room =
      let a = ap length (flat-spread_push gs g) ∙ length-append (flat (spread gs)) (map (shift g.start) (flat (group_content g).chunks)) in
      let b = length_shifted rules g.start (flat (group_content g).chunks) in
      record {
        groups = AreGroups-push rules gs g h.groups group some;
        after = All-push (λ q. start ≤ q.start) gs g h.after l;
        first = first_grown gs h.groups h.first f;
        room = omega (arith, a, b, room);
      }
    where
      first_grown : (hs : List (PlacedGroup T)) → AreGroups rules hs → (1 ≤ length hs → first_start (flat (spread hs)) ≡ start) → (hs ≡ [] → g.start ≡ start) → 1 ≤ length (hs ++ g ∷ [])
          → first_start (flat (spread (hs ++ g ∷ []))) ≡ start
      first_grown [] k e f n = ap first_start (flat-spread g []) ∙ (first_of (flat (group_content g).chunks) [] g.start some group.first ∙ f refl)
      first_grown (q ∷ hs) k e f n =
          let x = ap first_start (flat-spread q (hs ++ g ∷ [])) ∙ first_of (flat (group_content q).chunks) (flat (spread (hs ++ g ∷ []))) q.start k.0.1 k.0.0.first in
          let y = ap first_start (flat-spread q hs) ∙ first_of (flat (group_content q).chunks) (flat (spread hs)) q.start k.0.1 k.0.0.first in
          let z = e (omega arith) in
          omega (arith, x, y, z)
