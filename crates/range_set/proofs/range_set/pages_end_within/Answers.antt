use Rattle.std.proofs.Common.{◌≡◌, ◌+◌, ◌≤◌, List, ap, subst, sym, ◌∙◌, arith}
use Rattle.std.proofs.lemmas.List.{take_all}
use Rattle.range_set.specs.PrivateChunks.{flat, spread}
use Rattle.range_set.specs.PrivatePages.{laid}
use Rattle.range_set.specs.declared.page.Page.{Page}
use Rattle.range_set.specs.declared.page.PlacedPage.{PlacedPage}
use Rattle.range_set.proofs.Pages.{page-at}
use Rattle.range_set.proofs.Each.{Within, end_within, within}
use Rattle.range_set.proofs.Sets.{hull_of, within_push}
use Rattle.range_set.proofs.range_set.pages_end_within.Goals as goal

pub loop-placed-init : goal.loop-placed-init
loop-placed-init g c = tt

pub loop-placed-preserved : goal.loop-placed-preserved
loop-placed-preserved g c =
    let reach = ap (λ (x : Page g.row.T.Denot). x.reach) c.deref.ensures in
    let inside = c.if-placed-deref.false in
    within_push g.T.RangeValue.rules c.args.len c.args.pages.now c.loop-placed.placed-index c.placed-item.result c.loop-placed-test.true c.placed-item.is c.requires (omega (arith, reach, inside)) c.loop-placed.invariant

pub returns-then-placed-deref : goal.returns-then-placed-deref
returns-then-placed-deref g c =
    let reach = ap (λ (x : Page g.row.T.Denot). x.reach) c.deref.ensures in
    let past = c.if-placed-deref.true in (
      λ h. search Rattle.std.proofs.Common.rules,
      λ h.
          let l = hull_of g.T.RangeValue.rules c.args.len c.args.pages.now c.loop-placed.placed-index c.placed-item.result c.loop-placed-test.true c.placed-item.is c.requires (within c.args.len (flat (spread (laid c.args.pages.now))) h) in
          absurd (omega (arith, l, reach, past)),
    )

pub returns : goal.returns
returns g c = (
  λ h. end_within c.args.len (flat (spread (laid c.args.pages.now)))
      (subst (λ (ps : List (PlacedPage g.row.T.Denot)). Within c.args.len (flat (spread (laid ps)))) (take_all c.loop-placed.placed-index c.args.pages.now (omega arith)) c.loop-placed.invariant),
  λ h. search Rattle.std.proofs.Common.rules,
)

pub overflow_add-placed : goal.overflow_add-placed
overflow_add-placed g c =
    let here = page-at g.T.RangeValue.rules c.args.pages.now c.loop-placed.placed-index c.placed-item.result c.loop-placed-test.true c.placed-item.is c.requires in
    let fits = here.0.fits in
    let reach = ap (λ (x : Page g.row.T.Denot). x.reach) c.deref.ensures in
    omega (arith, fits, reach)
