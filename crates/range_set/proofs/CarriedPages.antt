-- Pages that are shared one after another, each as far on as a place goes.
use Rattle.std.proofs.Common.{◌≡◌, ℕ, ◌+◌, ◌-◌, ◌^◌, ◌<◌, ◌≤◌, false, List, [], ◌∷◌, ◌++◌, length, map, refl, sym, ap, subst, ◌∙◌, arith, append_assoc}
use Rattle.std.proofs.lemmas.List.{map-append, length-append}
use Rattle.std.proofs.lemmas.List.Folds.{list_any-append}
use Rattle.std.specs.List.{list_any}
use Rattle.change_desc.specs.Ranges.{meets}
use Rattle.change_desc.specs.declared.changed_range.ChangedRange.{ChangedRange}
use Rattle.range_set.specs.Rules.{RangeRules}
use Rattle.range_set.specs.Mapping.{is_turned}
use Rattle.range_set.specs.PrivateChunks.{AllApart, AreGroups, AreShared, Ascend, FitCarried, carry, flat, greatest_end, group_content, shift, spread}
use Rattle.range_set.specs.PrivatePages.{IsPage, further}
use Rattle.range_set.specs.declared.ranged.Ranged.{Ranged}
use Rattle.range_set.specs.declared.group.PlacedGroup.{PlacedGroup}
use Rattle.range_set.specs.declared.page.Page.{Page}
use Rattle.range_set.proofs.Chunks.{ascend-less, ascend-rest, greatest_shifted, length_shifted}
use Rattle.range_set.proofs.Clear.{none-narrow}
use Rattle.range_set.proofs.Groups.{begins, flat-spread, flat-spread_append, greatest-append, turned_any}
use Rattle.range_set.proofs.Pages.{flat-further, hull_first, hull_others, some_group}
use Rattle.range_set.proofs.Passing.{or_first_false, or_second_false}
use Rattle.range_set.proofs.Walked.{ascend_hull}

module _ {T : Type 0} where
  pub page_ranges : (start : ℕ) (gs others : List (PlacedGroup T)) → flat (spread (map (further start) gs ++ others)) ≡ map (shift start) (flat (spread gs)) ++ flat (spread others)
  page_ranges start gs others = flat-spread_append (map (further start) gs) others ∙ ap (λ rs. rs ++ flat (spread others)) (flat-further start gs)

  carry_further : (from to start : ℕ) (gs : List (PlacedGroup T)) → from ≤ start → map (carry from to) (map (further start) gs) ≡ map (further (start - from + to)) gs
  carry_further from to start [] l = refl
  carry_further from to start (g ∷ gs) l =
      let e : g.start + start - from + to ≡ g.start + (start - from + to) = omega (arith, l) in
      ap (λ n. let h : PlacedGroup T = record { start = n; grown = g.grown; group = g.group } in h ∷ map (carry from to) (map (further start) gs)) e
      ∙ ap (λ hs. further (start - from + to) g ∷ hs) (carry_further from to start gs l)

  AllApart-append : (from : ℕ) (changed : List ChangedRange) (gs hs : List (PlacedGroup T)) → AllApart from changed gs → AllApart from changed hs → AllApart from changed (gs ++ hs)
  AllApart-append from changed [] hs h k = k
  AllApart-append from changed (g ∷ gs) hs h k = (h.0, AllApart-append from changed gs hs h.1 k)

  pub fit_rest : (from to : ℕ) (changed : List ChangedRange) (gs hs : List (PlacedGroup T)) → FitCarried from to changed (gs ++ hs) → FitCarried from to changed hs
  fit_rest from to changed [] hs h = h
  fit_rest from to changed (g ∷ gs) hs h = fit_rest from to changed gs hs h.1

  pub fit_first : (from to : ℕ) (changed : List ChangedRange) (gs hs : List (PlacedGroup T)) → FitCarried from to changed (gs ++ hs) → FitCarried from to changed gs
  fit_first from to changed [] hs h = tt
  fit_first from to changed (g ∷ gs) hs h = (h.0, fit_first from to changed gs hs h.1)

  -- what was put after ranges of the first of some groups was put of all of them
  pub shared_first : (from to : ℕ) (changed : List ChangedRange) (gs rest hs : List (PlacedGroup T)) (old new : List (Ranged T)) → AreShared from to changed gs rest old new → AreShared from to changed (gs ++ hs) (rest ++ hs) old new
  shared_first from to changed gs rest hs old new h = record {
    taken = h.taken;
    is = ap (λ xs. xs ++ hs) h.is ∙ append_assoc h.taken rest hs;
    apart = h.apart;
    ranges = h.ranges;
  }

  -- the first of some groups were put after ranges, and then more
  pub shared_on : (from to : ℕ) (changed : List ChangedRange) (gs mid_rest rest : List (PlacedGroup T)) (old mid new : List (Ranged T)) → AreShared from to changed gs mid_rest old mid → AreShared from to changed mid_rest rest mid new
      → AreShared from to changed gs rest old new
  shared_on from to changed gs mid_rest rest old mid new h k =
      let a = flat (spread (map (carry from to) h.taken)) in
      let b = flat (spread (map (carry from to) k.taken)) in
      record {
        taken = h.taken ++ k.taken;
        is = h.is ∙ (ap (λ hs. h.taken ++ hs) k.is ∙ sym (append_assoc h.taken k.taken rest));
        apart = AllApart-append from changed h.taken k.taken h.apart k.apart;
        ranges = k.ranges ∙ (ap (λ rs. rs ++ b) h.ranges
            ∙ (append_assoc old a b
            ∙ (ap (λ rs. old ++ rs) (sym (flat-spread_append (map (carry from to) h.taken) (map (carry from to) k.taken)))
            ∙ ap (λ qs. old ++ flat (spread qs)) (sym (map-append (carry from to) h.taken k.taken)))));
      }

  -- none of some groups was put after ranges
  pub shared_none : (from to : ℕ) (changed : List ChangedRange) (gs : List (PlacedGroup T)) (old : List (Ranged T)) → AreShared from to changed gs gs old old
  shared_none from to changed gs old = record {
    taken = [];
    is = refl;
    apart = tt;
    ranges = nil_right old;
  }
    where
      nil_right : (rs : List (Ranged T)) → rs ≡ rs ++ []
      nil_right [] = refl
      nil_right (r ∷ rs) = ap (λ qs. r ∷ qs) (nil_right rs)

module _ {T : Type 0} (rules : RangeRules T) where
  length_carried : (from to : ℕ) (gs : List (PlacedGroup T)) → length (flat (spread (map (carry from to) gs))) ≡ length (flat (spread gs))
  length_carried from to [] = refl
  length_carried from to (g ∷ gs) =
      let ranges = flat (group_content g).chunks in
      let a = ap length (flat-spread (carry from to g) (map (carry from to) gs)) ∙ length-append (map (shift (g.start - from + to)) ranges) (flat (spread (map (carry from to) gs))) in
      let b = ap length (flat-spread g gs) ∙ length-append (map (shift g.start) ranges) (flat (spread gs)) in
      let c = length_shifted rules (g.start - from + to) ranges in
      let d = length_shifted rules g.start ranges in
      let e = length_carried from to gs in
      omega (arith, a, b, c, d, e)

  -- what is shared of groups leaves for the others what was asked of all
  pub record AreLeftShared (from to : ℕ) (changed : List ChangedRange) (gs rest : List (PlacedGroup T)) (old new : List (Ranged T)) : Type 0 where
    pub ascend : Ascend from (flat (spread rest))
    pub fits : FitCarried from to changed rest
    pub room : length new + length (flat (spread rest)) ≡ length old + length (flat (spread gs))
    pub fewer : length rest ≤ length gs

  pub left_shared : (from to : ℕ) (changed : List ChangedRange) (gs rest : List (PlacedGroup T)) (old new : List (Ranged T)) → AreShared from to changed gs rest old new → Ascend from (flat (spread gs)) → FitCarried from to changed gs
      → AreLeftShared from to changed gs rest old new
  left_shared from to changed gs rest old new h asc fits =
      let parts = ap (λ hs. flat (spread hs)) h.is ∙ flat-spread_append h.taken rest in
      let a = ap length parts ∙ length-append (flat (spread h.taken)) (flat (spread rest)) in
      let b = ap length h.ranges ∙ length-append old (flat (spread (map (carry from to) h.taken))) in
      let c = length_carried from to h.taken in
      let n = ap length h.is ∙ length-append h.taken rest in
      record {
        ascend = ascend-rest from (flat (spread h.taken)) (flat (spread rest)) (subst (Ascend from) parts asc);
        fits = fit_rest from to changed h.taken rest (subst (FitCarried from to changed) h.is fits);
        room = omega (arith, a, b, c);
        fewer = omega (arith, n);
      }

  apart_page : (from start reach : ℕ) (changed : List ChangedRange) (gs : List (PlacedGroup T)) → AreGroups rules gs → greatest_end (flat (spread gs)) ≤ reach → list_any (is_turned rules) (flat (spread gs)) ≡ false
      → list_any (meets from (start + reach)) changed ≡ false → AllApart from changed (map (further start) gs)
  apart_page from start reach changed [] h l t m = tt
  apart_page from start reach changed (g ∷ gs) h l t m =
      let ranges = map (shift g.start) (flat (group_content g).chunks) in
      let each = sym (ap (list_any (is_turned rules)) (flat-spread g gs) ∙ list_any-append (is_turned rules) ranges (flat (spread gs))) ∙ t in
      let first = hull_first rules g gs h in
      let later = hull_others rules g gs in (
        (
          h.0.0.turned ∙ (sym (turned_any rules g.start (flat (group_content g).chunks)) ∙ or_first_false (list_any (is_turned rules) ranges) (list_any (is_turned rules) (flat (spread gs))) each),
          none-narrow from (start + reach) from (g.start + start + (group_content g).reach) changed (omega arith) (omega (arith, first, l)) m,
        ),
        apart_page from start reach changed gs h.1 (omega (arith, later, l)) (or_second_false (list_any (is_turned rules) ranges) (list_any (is_turned rules) (flat (spread gs))) each) m,
      )

  fit_page : (from to start reach : ℕ) (changed : List ChangedRange) (gs others : List (PlacedGroup T)) → from ≤ start → AreGroups rules gs → 1 ≤ length gs → greatest_end (flat (spread gs)) ≤ reach
      → list_any (meets from (start + reach)) changed ≡ false → FitCarried from to changed (map (further start) gs ++ others) → start - from + to + greatest_end (flat (spread gs)) < 2 ^ 32
  fit_page from to start reach changed [] others s h some l m f = absurd (omega (arith, some))
  fit_page from to start reach changed (g ∷ []) others s h some l m f =
      let first = hull_first rules g [] h in
      let here = f.0 (none-narrow from (start + reach) from (g.start + start + (group_content g).reach) changed (omega arith) (omega (arith, first, l)) m) in
      let a = ap greatest_end (flat-spread g []) ∙ greatest-append (map (shift g.start) (flat (group_content g).chunks)) [] in
      let b = greatest_shifted g.start (flat (group_content g).chunks) h.0.1 in
      let c = h.0.0.reach in
      omega (arith, here, a, b, c, s)
  fit_page from to start reach changed (g ∷ q ∷ gs) others s h some l m f =
      let first = hull_first rules g (q ∷ gs) h in
      let later = hull_others rules g (q ∷ gs) in
      let here = f.0 (none-narrow from (start + reach) from (g.start + start + (group_content g).reach) changed (omega arith) (omega (arith, first, l)) m) in
      let more = fit_page from to start reach changed (q ∷ gs) others s h.1 (omega arith) (omega (arith, later, l)) m f.1 in
      let a = ap greatest_end (flat-spread g (q ∷ gs)) ∙ greatest-append (map (shift g.start) (flat (group_content g).chunks)) (flat (spread (q ∷ gs))) in
      let b = greatest_shifted g.start (flat (group_content g).chunks) h.0.1 in
      let c = h.0.0.reach in
      omega (arith, here, more, a, b, c, s)

  -- what a page gives that is the first of some groups, and that no replaced range meets from a place on
  pub record IsCarriedPage (from to start : ℕ) (page : Page T) (changed : List ChangedRange) (others : List (PlacedGroup T)) : Type 0 where
    pub begin : from ≤ start
    pub ends : start - from + to + page.reach < 2 ^ 32
    pub ascend : Ascend from (flat (spread others))
    pub fits : FitCarried from to changed others
    pub apart : AllApart from changed (map (further start) page.groups.items)

  pub page_begins : (from start : ℕ) (page : Page T) (others : List (PlacedGroup T)) → IsPage rules start page → 1 ≤ length (flat (spread page.groups.items)) → Ascend from (flat (spread (map (further start) page.groups.items ++ others)))
      → from ≤ start
  page_begins from start page others h some asc = begins start from (flat (spread page.groups.items)) (flat (spread others)) some h.first (subst (Ascend from) (page_ranges start page.groups.items others) asc)

  pub carried_page : (from to start : ℕ) (page : Page T) (changed : List ChangedRange) (others : List (PlacedGroup T)) → IsPage rules start page → 1 ≤ length (flat (spread page.groups.items))
      → Ascend from (flat (spread (map (further start) page.groups.items ++ others))) → FitCarried from to changed (map (further start) page.groups.items ++ others)
      → page.is_turned ≡ false → list_any (meets from (start + page.reach)) changed ≡ false → IsCarriedPage from to start page changed others
  carried_page from to start page changed others h some asc fits turned met =
      let gs = page.groups.items in
      let begin = page_begins from start page others h some asc in
      let hull = ascend_hull from start (flat (spread gs)) (flat (spread others)) some h.first (subst (Ascend from) (page_ranges start gs others) asc) in
      let reach = h.reach in
      let ends = fit_page from to start page.reach changed gs others begin h.groups (some_group gs some) (omega (arith, reach)) met fits in
      record {
        begin = begin;
        ends = omega (arith, ends, reach);
        ascend = ascend-less from start (flat (spread others)) hull.0 hull.1;
        fits = fit_rest from to changed (map (further start) gs) others fits;
        apart = apart_page from start page.reach changed gs h.groups (omega (arith, reach)) (sym h.turned ∙ turned) met;
      }

  -- one more page was put after ranges
  pub shared_page : (from to start : ℕ) (page : Page T) (changed : List ChangedRange) (others : List (PlacedGroup T)) (old new : List (Ranged T)) → IsCarriedPage from to start page changed others
      → new ≡ old ++ map (shift (start - from + to)) (flat (spread page.groups.items)) → AreShared from to changed (map (further start) page.groups.items ++ others) others old new
  shared_page from to start page changed others old new h e =
      let gs = page.groups.items in record {
        taken = map (further start) gs;
        is = refl;
        apart = h.apart;
        ranges = e ∙ ap (λ rs. old ++ rs) (sym (ap (λ hs. flat (spread hs)) (carry_further from to start gs h.begin) ∙ flat-further (start - from + to) gs));
      }

  pub page_room : (start : ℕ) (gs others : List (PlacedGroup T)) → length (flat (spread (map (further start) gs ++ others))) ≡ length (flat (spread gs)) + length (flat (spread others))
  page_room start gs others =
      let a = ap length (page_ranges start gs others) ∙ length-append (map (shift start) (flat (spread gs))) (flat (spread others)) in
      let b = length_shifted rules start (flat (spread gs)) in
      omega (arith, a, b)
