use Rattle.std.proofs.Common.{ap, sym, ◌∙◌}
use Rattle.range_set.specs.declared.page.Page.{Page}
use Rattle.range_set.proofs.Cursor.{last_page, no_point_page}
use Rattle.range_set.proofs.group_cursor.GroupCursor.past_pages_without_point.Goals as goal

pub loop-placed-preserved : goal.loop-placed-preserved
loop-placed-preserved g c =
    let rules = g.T.RangeValue.rules in
    let groups = c.args.self.now in
    let here = c.loop-placed.rest in
    let p = c.in-Some.placed.now in
    let others = c.in-Some.others in
    let none = sym (ap (λ (x : Page g.row.T.Denot). x.has_point) c.deref.ensures) ∙ c.if-deref.false in
    record {
      kept = no_point_page rules groups here p others c.in-Some.ensures none c.loop-placed.invariant.kept;
      last = last_page rules groups here p others c.in-Some.ensures c.loop-placed.invariant.last;
    }
