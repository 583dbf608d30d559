use Rattle.facet_slots.specs.Slotted.{plain}
use Rattle.state.proofs.RuleLists.{facets-known}
use Rattle.state.proofs.start.filter_facets.Goals as goal

pub returns-clause-numbers : goal.returns-clause-numbers
returns-clause-numbers g c =
    let s = c.args.slots.now in
    facets-known g.M.Meanings.rules g.met.M.Meanings.lawful g.met.M.Meanings.keeps s.setup s.scene (plain s).values c.known.ensures.lawful c.known.ensures.is_scene c.known.ensures.facets c.known.ensures.fields c.known.ensures.combined c.known.ensures.absent c.requires
    (record { change_filter = c.value.result.now; transaction_filter = c.value-2.result.now; transaction_extender = c.value-3.result.now; filter_data = c.value-4.result.now }) c.value.ensures c.value-2.ensures c.value-3.ensures
