use Rattle.std.proofs.Common.{◌∙◌, ap, subst, sym}
use Rattle.range_set.specs.PrivatePages.{PlacesGroups}
use Rattle.range_set.specs.declared.page.Page.{Page}
use Rattle.range_set.proofs.Chunks.{none_left}
use Rattle.range_set.proofs.Cursor.{open_page}
use Rattle.range_set.proofs.group_cursor.GroupCursor.split_groups.Goals as goal

pub returns-clause-some : goal.returns-clause-some
returns-clause-some g c =
    let rules = g.T.RangeValue.rules in
    let at = c.self.inside in
    let p = c.in_ok-placed.placed.now in
    let others = c.in_ok-placed.others.now in
    let items = c.as_slice.ensures.value ∙ ap (λ (x : Page g.row.T.Denot). x.groups.items) c.deref.ensures in
    let next = open_page rules at.base at.groups.now at.pages.now p others (none_left _ (sym c.is_empty.ensures ∙ c.if-not-is_empty.false)) c.in_ok-placed.ensures.cases.0 c.self.invariant in
    subst (λ gs. PlacesGroups rules c.args.self.now p.start gs others) (sym items)
    (subst (λ gs. PlacesGroups rules gs p.start p.page.value.groups.items others) c.self.view_is next)
