use Rattle.std.proofs.Common.{pos}
use Rattle.commands.specs.Editing.{shown_scene}
use Rattle.commands.specs.Undoing.{history_of}
use Rattle.commands.proofs.Restored.{none-restored}
use Rattle.commands.proofs.undoing.undo_selection.Goals as goal

pub returns-clause-none : goal.returns-clause-none
returns-clause-none c =
    none-restored (pos 0) (pos 2) (shown_scene c.args.scene.now) _ _ (history_of (shown_scene c.args.scene.now)).done _ _ c.in_ok-restore.ensures c.restoring_item_if.ensures
