use Rattle.std.proofs.Common.{length}
use Rattle.state.proofs.created.cut_scene.Goals as goal

pub returns-clause-is_scene : goal.returns-clause-is_scene
returns-clause-is_scene c = record {
  short = c.requires.short;
  is_selection = c.known.ensures;
  inside = c.in_ok-selection.ensures.inside (length c.args.scene.document.characters) c.requires.inside;
}
