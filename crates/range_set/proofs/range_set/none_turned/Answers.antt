use Rattle.std.proofs.Common.{ap, sym, ◌∙◌}
use Rattle.range_set.specs.declared.page.Page.{Page}
use Rattle.range_set.proofs.Still.{turned_push}
use Rattle.range_set.proofs.range_set.none_turned.Goals as goal

pub loop-placed-preserved : goal.loop-placed-preserved
loop-placed-preserved g c =
    let same = ap (λ (x : Page g.row.T.Denot). x.is_turned) c.deref.ensures in
    turned_push g.T.RangeValue.rules c.args.pages.now c.loop-placed.placed-index c.placed-item.result c.loop-placed-test.true c.placed-item.is c.requires (sym same ∙ c.if-deref.false) c.loop-placed.invariant
