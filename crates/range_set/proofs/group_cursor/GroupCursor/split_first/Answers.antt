use Rattle.std.proofs.Common.{◌∙◌, ◌+◌, ◌++◌, map, ap, subst, sym, arith}
use Rattle.range_set.specs.PrivatePages.{PlacesFirst, further, laid}
use Rattle.range_set.specs.declared.page.Page.{Page}
use Rattle.range_set.proofs.Cursor.{first_of_page}
use Rattle.range_set.proofs.group_cursor.GroupCursor.split_first.Goals as goal

pub overflow_add-result-in-None : goal.overflow_add-result-in-None
overflow_add-result-in-None g c =
    let at = c.self.inside in
    let p = c.in_ok-placed-in-None.placed.now in
    let first = c.in_ok-first-in-None in
    let items = ap (λ (x : Page g.row.T.Denot). x.groups.items) (sym c.deref.ensures) ∙ (sym c.as_slice.ensures.value ∙ first.ensures.cases.0) in
    let next = first_of_page g.T.RangeValue.rules at.base at.groups.now at.pages.now p c.in_ok-placed-in-None.others.now first.first.now first.groups.now c.in-None.ensures.cases c.in_ok-placed-in-None.ensures.cases.0 items c.self.invariant in
    let fits = next.0.first.fits in
    omega (arith, fits)

pub invariant_of-result-in-None : goal.invariant_of-result-in-None
invariant_of-result-in-None g c =
    let at = c.self.inside in
    let p = c.in_ok-placed-in-None.placed.now in
    let first = c.in_ok-first-in-None in
    let items = ap (λ (x : Page g.row.T.Denot). x.groups.items) (sym c.deref.ensures) ∙ (sym c.as_slice.ensures.value ∙ first.ensures.cases.0) in
    (first_of_page g.T.RangeValue.rules at.base at.groups.now at.pages.now p c.in_ok-placed-in-None.others.now first.first.now first.groups.now c.in-None.ensures.cases c.in_ok-placed-in-None.ensures.cases.0 items c.self.invariant).1

pub returns-in_ok-first-in-None-clause-some : goal.returns-in_ok-first-in-None-clause-some
returns-in_ok-first-in-None-clause-some g c =
    let at = c.self.inside in
    let p = c.in_ok-placed-in-None.placed.now in
    let first = c.in_ok-first-in-None in
    let items = ap (λ (x : Page g.row.T.Denot). x.groups.items) (sym c.deref.ensures) ∙ (sym c.as_slice.ensures.value ∙ first.ensures.cases.0) in
    let next = first_of_page g.T.RangeValue.rules at.base at.groups.now at.pages.now p c.in_ok-placed-in-None.others.now first.first.now first.groups.now c.in-None.ensures.cases c.in_ok-placed-in-None.ensures.cases.0 items c.self.invariant in
    subst (λ gs. PlacesFirst g.T.RangeValue.rules gs (p.start + first.first.now.start) first.first.now (map (further p.start) first.groups.now ++ laid c.in_ok-placed-in-None.others.now)) c.self.view_is next.0
