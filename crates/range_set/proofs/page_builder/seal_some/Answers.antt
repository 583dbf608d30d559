use Rattle.std.proofs.Common.{◌++◌, ◌≤◌, List, length, map, sym, ap, subst, ◌∙◌, arith}
use Rattle.range_set.specs.PrivateChunks.{flat, spread}
use Rattle.range_set.specs.PrivatePages.{IsPage, further, laid}
use Rattle.range_set.specs.declared.group.PlacedGroup.{PlacedGroup}
use Rattle.range_set.specs.declared.page.Page.{Page}
use Rattle.range_set.proofs.Pages.{ArePages-push, laid-push, length_further, spread_some}
use Rattle.range_set.proofs.page_builder.seal_some.Goals as goal

pub returns-clause-pages : goal.returns-clause-pages
returns-clause-pages g c =
    let rules = g.T.RangeValue.rules in
    let growing = c.args.growing.now in
    let page = c.of.result in
    let items = c.of.ensures.groups ∙ (c.trim.ensures ∙ ap (λ x. x.items) c.replace-groups.ensures.value) in
    let is = sym c.in_ok-new.ensures.ok in
    let some = spread_some rules growing.items c.requires.growing.groups c.requires.some in
    let a = length_further rules c.args.start page.groups.items in
    let b = ap (λ gs. length (flat (spread gs))) items in
    rw c.in_ok-push.ensures.items (ArePages-push rules c.args.done.now.items _ c.requires.pages
    (subst (IsPage rules c.args.start) is c.of.ensures.page)
    (subst (λ (x : Page g.row.T.Denot). 1 ≤ length (flat (spread x.groups.items))) is (omega (arith, some, a, b))))

pub returns-clause-groups : goal.returns-clause-groups
returns-clause-groups g c =
    let done = c.args.done.now.items in
    let items = c.of.ensures.groups ∙ (c.trim.ensures ∙ ap (λ x. x.items) c.replace-groups.ensures.value) in
    ap laid c.in_ok-push.ensures.items
    ∙ (laid-push done _
    ∙ (ap (λ (x : Page g.row.T.Denot). laid done ++ map (further c.args.start) x.groups.items) c.in_ok-new.ensures.ok
    ∙ ap (λ (gs : List (PlacedGroup g.row.T.Denot)). laid done ++ gs) items))
