use Rattle.std.proofs.lemmas.Result.{err_from_is_err_and}
use Rattle.serde_json.specs.View.{items_view}
use Rattle.script.specs.Reading.{each}
use Rattle.script.proofs.Each.{goes_on, ends, is_done}
use Rattle.script.proofs.item.read_each.Goals as goal

pub returns-in_err-read : goal.returns-in_err-read
returns-in_err-read g c =
    let p = err_from_is_err_and c.from_residual-in_err-read.result c.from_residual-in_err-read.ensures.1 in
    rw (p.1, p.2) (ends (g.T.Item.item_of c.args.name.now) c.in_err-read.field-0.0 c.loop-item.list.items c.args.items.now c.loop-item.item-index c.item-item.result (each (g.T.Item.item_of c.args.name.now) (items_view c.args.items.now)) c.loop-item-test.true c.item-item.is c.in_err-read.ensures c.loop-item.invariant)

pub loop-item-preserved : goal.loop-item-preserved
loop-item-preserved g c =
    rw c.in_ok-push.ensures.items (goes_on (g.T.Item.item_of c.args.name.now) c.loop-item.list.items c.in_ok-read.field-0 c.args.items.now c.loop-item.item-index c.item-item.result (each (g.T.Item.item_of c.args.name.now) (items_view c.args.items.now)) c.loop-item-test.true c.item-item.is c.in_ok-read.ensures c.loop-item.invariant)

pub returns : goal.returns
returns g c = is_done (g.T.Item.item_of c.args.name.now) c.loop-item.list.items c.args.items.now c.loop-item.item-index (each (g.T.Item.item_of c.args.name.now) (items_view c.args.items.now)) c.loop-item-test.false c.loop-item.invariant
