use Rattle.std.proofs.Common.{ap, ◌∙◌, arith}
use Rattle.std.proofs.lemmas.Grind.{common_steps}
use Rattle.serde_json.specs.Data.{array}
use Rattle.serde_json.proofs.Views.{view-Array}
use Rattle.replies.proofs.ShownItems.{item_depth, all_written}
use Rattle.replies.proofs.shown_values.+plain.Goals as goal

pub plain_list_value-plain_value-requires : goal.plain_list_value-plain_value-requires
plain_list_value-plain_value-requires t c =
    let items = c.as_slice-item-items.result.now in
    let e = item_depth items c.loop-item.item-index c.item-item.result in
    grind (arith, common_steps, e)

pub plain_list_value-returns : goal.plain_list_value-returns
plain_list_value-returns t c =
    view-Array c.loop-item.values ∙ ap array (all_written c.loop-item.values.items c.as_slice-item-items.result.now c.loop-item.item-index c.args.list.now c.loop-item-test.false c.loop-item.invariant c.as_slice-item-items.ensures)
