use Rattle.std.proofs.Common.{map, ap, ◌∙◌, refl, arith}
use Rattle.range_set.specs.PrivateChunks.{spread}
use Rattle.range_set.specs.PrivatePages.{further}
use Rattle.range_set.specs.declared.page.Page.{Page}
use Rattle.range_set.proofs.Builders.{grown}
use Rattle.range_set.proofs.Groups.{spread-append}
use Rattle.range_set.proofs.Pages.{length_further, page_opened}
use Rattle.range_set.proofs.group_builder.GroupBuilder.put_page.Goals as goal

pub returns-clause-builder : goal.returns-clause-builder
returns-clause-builder g c =
    let rules = g.T.RangeValue.rules in
    let page = c.args.page.now.value in
    let n = ap (λ (x : Page g.row.T.Denot). x.count) c.deref.ensures in
    let k = length_further rules c.args.start page.groups.items in
    let count = c.requires.page.count in
    let room = c.requires.room in
    grown rules c.args.self.now _ (map (further c.args.start) page.groups.items) c.deref.result.now.count c.requires.builder c.in_ok-share.ensures refl refl (omega (arith, n, k, count))
    (page_opened rules c.args.start page c.requires.page) (omega (arith, k, room))

pub returns-clause-ranges : goal.returns-clause-ranges
returns-clause-ranges g c = ap spread c.in_ok-share.ensures ∙ spread-append c.args.self.now.done (map (further c.args.start) c.args.page.now.value.groups.items)
