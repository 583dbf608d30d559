use Rattle.facet_slots.proofs.Fitting.{joined_fit}
use Rattle.facet_slots.specs.Keeping.{held}
use Rattle.facet_slots.specs.Setups.{input_node}
use Rattle.std.proofs.Common.{map}
use Rattle.facet_slots.specs.Found.{scene_of}
use Rattle.facet_slots.proofs.outputs.facet_found.Goals as goal

pub combine-requires-clause-fits : goal.combine-requires-clause-fits
combine-requires-clause-fits g c =
    rw (c.as_slice.ensures, c.in_ok-inputs.ensures.value)
    (joined_fit g.M.Meanings.rules g.met.M.Meanings.lawful c.args.facet.now.combine (scene_of c.args.scene.now) c.requires.scene (held c.args.shelf.now.facets c.args.shelf.now.fields) c.known.ensures (map (input_node c.args.node_defs.now) c.args.nodes.now) c.requires.lawful.inputs)
