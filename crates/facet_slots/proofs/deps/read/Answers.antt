use Rattle.facet_slots.proofs.Fitting.{shown-is}
use Rattle.facet_slots.specs.Keeping.{held}
use Rattle.facet_slots.specs.Found.{scene_of}
use Rattle.facet_slots.proofs.deps.read.Goals as goal

pub new-requires-clause-in_range : goal.new-requires-clause-in_range
new-requires-clause-in_range c =
    rw c.in_ok-values.ensures (shown-is (scene_of c.args.scene.now) c.requires (held c.args.shelf.now.facets c.args.shelf.now.fields) c.known.ensures c.args.reads.now).in_range

pub new-requires-clause-is_selection : goal.new-requires-clause-is_selection
new-requires-clause-is_selection c =
    rw c.in_ok-selection.ensures (shown-is (scene_of c.args.scene.now) c.requires (held c.args.shelf.now.facets c.args.shelf.now.fields) c.known.ensures c.args.reads.now).is_selection

pub new-requires-clause-inside : goal.new-requires-clause-inside
new-requires-clause-inside c =
    rw (c.in_ok-document.ensures, c.in_ok-selection.ensures) (shown-is (scene_of c.args.scene.now) c.requires (held c.args.shelf.now.facets c.args.shelf.now.fields) c.known.ensures c.args.reads.now).inside
