use Rattle.std.proofs.Common.{◌≡◌, ◌≤◌, ◌<◌, ◌+◌, ◌*◌, map, ap, ◌∙◌, arith}
use Rattle.std.proofs.lemmas.Grind.{common_steps}
use Rattle.cm_plain.specs.Datum.{data_of, deepest}
use Rattle.cm_plain.specs.Plain.{datum_of}
use Rattle.values.proofs.Items.{in_range-more, item-depth}
use Rattle.values.proofs.known.+known.Goals as goal

pub known_list-known_plain-requires : goal.known_list-known_plain-requires
known_list-known_plain-requires t c =
    let items = c.as_slice-item-items.result.now in
    let e = item-depth items c.loop-item.item-index c.item-item.result in
    grind (arith, common_steps, e)

pub known_list-loop-item-preserved : goal.known_list-loop-item-preserved
known_list-loop-item-preserved t c =
    let items = c.as_slice-item-items.result.now in
    let e = in_range-more items c.loop-item.item-index c.item-item.result in
    grind (arith, common_steps, e)
