use Rattle.std.proofs.Common.{option_map, sym, ap, ◌∙◌}
use Rattle.serde_json.specs.View.{items_view}
use Rattle.cm_plain.specs.Plain.{datum_of}
use Rattle.script.specs.Values.{values_of}
use Rattle.script.proofs.Gathered.{goes_on, is_done, made}
use Rattle.script.proofs.value_reading.+value.Goals as goal

pub list_of-loop-item-preserved : goal.list_of-loop-item-preserved
list_of-loop-item-preserved t c =
    let is = sym (ap (option_map datum_of) c.in-Some.is) ∙ c.in_ok-value.ensures in
    rw c.in_ok-push-in-Some.ensures.items (goes_on c.loop-item.values.items c.in-Some.value c.args.items.now c.loop-item.item-index c.item-item.result (values_of (items_view c.args.items.now)) c.loop-item-test.true c.item-item.is is c.loop-item.invariant)

pub list_of-returns : goal.list_of-returns
list_of-returns t c =
    let total = values_of (items_view c.args.items.now) in
    let values = c.loop-item.values.items in
    let done = is_done values c.args.items.now c.loop-item.item-index total c.loop-item-test.false c.loop-item.invariant in
    rw c.ok.ensures.value (made c.list.result values total c.list.ensures.ok c.list.ensures.fits c.list.ensures.too_deep done)
