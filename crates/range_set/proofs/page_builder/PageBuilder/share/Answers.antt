use Rattle.std.proofs.Common.{◌++◌, ◌≤◌, length, map, ap, subst, sym, ◌∙◌}
use Rattle.std.proofs.lemmas.List.{append-nil}
use Rattle.range_set.specs.PrivateChunks.{flat, spread}
use Rattle.range_set.specs.PrivatePages.{IsPage, further, laid}
use Rattle.range_set.specs.declared.page.Page.{Page}
use Rattle.range_set.proofs.Pages.{ArePages-push, laid-push}
use Rattle.range_set.proofs.page_builder.PageBuilder.share.Goals as goal

pub invariant_of-self-2 : goal.invariant_of-self-2
invariant_of-self-2 g c =
    let rules = g.T.RangeValue.rules in
    let value = c.in_ok-clone.ensures.cases in
    record {
      pages = rw c.in_ok-push.ensures.items (ArePages-push rules c.seal.new.done.items _ c.seal.ensures.pages
          (subst (λ (x : Page g.row.T.Denot). IsPage rules c.args.start x) (sym value) c.requires.page)
          (subst (λ (x : Page g.row.T.Denot). 1 ≤ length (flat (spread x.groups.items))) (sym value) c.requires.some));
      groups = c.seal.ensures.growing;
    }

pub returns : goal.returns
returns g c =
    let start = c.args.start in
    let value = c.in_ok-clone.ensures.cases in
    ap (λ gs. laid c.push.new.self.items ++ gs) c.in_ok-seal.ensures.empty
    ∙ (append-nil (laid c.push.new.self.items)
    ∙ (ap laid c.in_ok-push.ensures.items
    ∙ (laid-push c.seal.new.done.items _
    ∙ (ap (λ (x : Page g.row.T.Denot). laid c.seal.new.done.items ++ map (further start) x.groups.items) value
    ∙ ap (λ gs. gs ++ map (further start) c.args.page.now.value.groups.items) (c.in_ok-seal.ensures.groups ∙ c.self.view_is)))))
