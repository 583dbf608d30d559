use Rattle.std.proofs.Common.{◌≡◌, ◌+◌, ◌-◌, ◌<◌, ◌^◌, ◌++◌, length, map, ap, sym, subst, ◌∙◌, arith}
use Rattle.std.proofs.lemmas.List.{length-append}
use Rattle.std.specs.List.{list_any}
use Rattle.change_desc.specs.Ranges.{meets}
use Rattle.range_set.specs.PrivateChunks.{Ascend, AreShared, FitCarried, flat, shift, spread}
use Rattle.range_set.specs.PrivateBuilders.{grouped}
use Rattle.range_set.specs.PrivatePages.{further}
use Rattle.range_set.specs.declared.page.Page.{Page}
use Rattle.range_set.proofs.CarriedPages.{IsCarriedPage, carried_page, page_begins, page_room, shared_none, shared_on, shared_page}
use Rattle.range_set.proofs.Chunks.{flat-append, length_shifted}
use Rattle.range_set.proofs.Pages.{flat-further, page_placed}
use Rattle.range_set.proofs.group_builder.GroupBuilder.share_carried_pages.Goals as goal

pub loop-placed-init : goal.loop-placed-init
loop-placed-init g c = record {
  builder = c.requires.builder;
  ascend = c.requires.ascend;
  fits = c.requires.fits;
  room = c.requires.room;
  shared = shared_none c.args.from c.args.to c.args.changed.now c.args.groups (flat (grouped c.args.self.now));
}

pub overflow_sub-placed : goal.overflow_sub-placed
overflow_sub-placed g c =
    let p = c.in-Some.placed.now in
    let next = c.in-Some.ensures in
    page_begins g.T.RangeValue.rules c.args.from p.start p.page.value c.in-Some.others next.page next.some (subst (λ gs. Ascend c.args.from (flat (spread gs))) next.is c.loop-placed.invariant.ascend)

carried : (g : _) (c : goal.After-put_page-arg-1 g) → IsCarriedPage g.T.RangeValue.rules c.args.from c.args.to c.in-Some.placed.now.start c.in-Some.placed.now.page.value c.args.changed.now c.in-Some.others
carried g c =
    let p = c.in-Some.placed.now in
    let next = c.in-Some.ensures in
    let at = c.loop-placed.invariant in
    let turned = sym (ap (λ (x : Page g.row.T.Denot). x.is_turned) c.deref-else-joins.ensures) ∙ c.if-deref.false in
    let met = ap (λ (x : Page g.row.T.Denot). list_any (meets c.args.from (p.start + x.reach)) c.args.changed.now) (sym c.deref.ensures) ∙ (sym c.first_meets.ensures ∙ c.if-first_meets.false) in
    carried_page g.T.RangeValue.rules c.args.from c.args.to p.start p.page.value c.args.changed.now c.in-Some.others next.page next.some
    (subst (λ gs. Ascend c.args.from (flat (spread gs))) next.is at.ascend) (subst (FitCarried c.args.from c.args.to c.args.changed.now) next.is at.fits) turned met

pub overflow_add-placed : goal.overflow_add-placed
overflow_add-placed g c = let ends = (carried g c).ends in omega (arith, ends)

pub put_page-requires-clause-page : goal.put_page-requires-clause-page
put_page-requires-clause-page g c = let p = c.in-Some.placed.now in page_placed g.T.RangeValue.rules p.start (p.start - c.args.from + c.args.to) p.page.value c.in-Some.ensures.page (carried g c).ends

pub put_page-requires-clause-room : goal.put_page-requires-clause-room
put_page-requires-clause-room g c =
    let p = c.in-Some.placed.now in
    let room = subst (λ gs. length (flat (grouped c.loop-placed.self)) + length (flat (spread gs)) < 2 ^ 64) c.in-Some.ensures.is c.loop-placed.invariant.room in
    let n = page_room g.T.RangeValue.rules p.start p.page.value.groups.items c.in-Some.others in
    omega (arith, room, n)

pub loop-placed-preserved : goal.loop-placed-preserved
loop-placed-preserved g c =
    let rules = g.T.RangeValue.rules in
    let from = c.args.from in
    let to = c.args.to in
    let p = c.in-Some.placed.now in
    let gs = p.page.value.groups.items in
    let others = c.in-Some.others in
    let here = grouped c.loop-placed.self in
    let next = c.in-Some.ensures in
    let at = c.loop-placed.invariant in
    let turned = sym (ap (λ (x : Page g.row.T.Denot). x.is_turned) c.deref-else-joins.ensures) ∙ c.if-deref.false in
    let met = ap (λ (x : Page g.row.T.Denot). list_any (meets from (p.start + x.reach)) c.args.changed.now) (sym c.deref.ensures) ∙ (sym c.first_meets.ensures ∙ c.if-first_meets.false) in
    let carry = carried_page rules from to p.start p.page.value c.args.changed.now others next.page next.some
    (subst (λ hs. Ascend from (flat (spread hs))) next.is at.ascend) (subst (FitCarried from to c.args.changed.now) next.is at.fits) turned met in
    let put : flat (grouped c.put_page.new.self) ≡ flat here ++ map (shift (p.start - from + to)) (flat (spread gs)) =
    ap flat c.in_ok-put_page.ensures.ranges ∙ (flat-append here (spread (map (further (p.start - from + to)) gs)) ∙ ap (λ rs. flat here ++ rs) (flat-further (p.start - from + to) gs)) in
    let room = subst (λ hs. length (flat here) + length (flat (spread hs)) < 2 ^ 64) next.is at.room in
    let n = page_room rules p.start gs others in
    let k = ap length put ∙ length-append (flat here) (map (shift (p.start - from + to)) (flat (spread gs))) in
    let l = length_shifted rules (p.start - from + to) (flat (spread gs)) in
    record {
      builder = c.in_ok-put_page.ensures.builder;
      ascend = carry.ascend;
      fits = carry.fits;
      room = omega (arith, room, n, k, l);
      shared = shared_on from to c.args.changed.now c.args.groups (map (further p.start) gs ++ others) others (flat (grouped c.args.self.now)) (flat here) _
          (subst (λ hs. AreShared from to c.args.changed.now c.args.groups hs (flat (grouped c.args.self.now)) (flat here)) next.is at.shared)
          (shared_page rules from to p.start p.page.value c.args.changed.now others (flat here) _ carry put);
    }
