use Rattle.std.proofs.Common.{ap, arith}
use Rattle.range_set.specs.declared.page.Page.{Page}
use Rattle.range_set.proofs.Cursor.{last_page, passed_page}
use Rattle.range_set.proofs.group_cursor.GroupCursor.past_pages.Goals as goal

pub loop-placed-preserved : goal.loop-placed-preserved
loop-placed-preserved g c =
    let rules = g.T.RangeValue.rules in
    let groups = c.args.self.now in
    let here = c.loop-placed.rest in
    let p = c.in-Some.placed.now in
    let others = c.in-Some.others in
    let e = ap (λ (x : Page g.row.T.Denot). x.reach) c.deref.ensures in
    let l = c.if-place-placed.false in
    record {
      passed = passed_page rules c.args.place groups here p others c.in-Some.ensures (omega (arith, e, l)) c.loop-placed.invariant.passed;
      last = last_page rules groups here p others c.in-Some.ensures c.loop-placed.invariant.last;
    }
