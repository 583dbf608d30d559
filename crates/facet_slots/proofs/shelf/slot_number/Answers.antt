use Rattle.std.proofs.Common.{◌≡◌, ◌∙◌, Some, slice_get, ap, sym}
use Rattle.std.proofs.lemmas.Option.{slice_get-get_or}
use Rattle.facet_slots.specs.declared.place.Place.TheVariants as place
use Rattle.facet_slots.proofs.Standings.{no-lasting}
use Rattle.facet_slots.proofs.shelf.slot_number.Goals as goal

pub unreachable-requires : goal.unreachable-requires
unreachable-requires c =
    let at : slice_get c.args.places.now c.args.facet ≡ Some c.index-places-facet.result = slice_get-get_or c.args.places.now c.args.facet c.index-places-facet.result c.requires.inside ∙ ap Some (sym c.index-places-facet.is) in
    no-lasting c.args.places.now c.args.facet c.in-Lasting.field-0 (at ∙ ap Some c.in-Lasting.is) c.requires.lasts

pub returns : goal.returns
returns c =
    let at : slice_get c.args.places.now c.args.facet ≡ Some c.index-places-facet.result = slice_get-get_or c.args.places.now c.args.facet c.index-places-facet.result c.requires.inside ∙ ap Some (sym c.index-places-facet.is) in
    at ∙ ap Some c.in-Slot.is
