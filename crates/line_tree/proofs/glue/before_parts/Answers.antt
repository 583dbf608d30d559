use Rattle.std.proofs.lemmas.List.{take_rest}
use Rattle.line_tree.proofs.Seams.{HaveHeight-drop}
use Rattle.line_tree.proofs.glue.before_parts.Goals as goal

pub join_copies-requires-clause-same : goal.join_copies-requires-clause-same
join_copies-requires-clause-same c = rw take_rest (HaveHeight-drop _ _ _ c.requires.same)
