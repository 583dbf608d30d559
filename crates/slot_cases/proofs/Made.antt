-- What is shown of a transaction from a document and a selection.
use Rattle.std.proofs.Common.{◌≡◌, ◌≤◌, ◌∙◌, List, ℕ, ap, length, subst, sym}
use Rattle.std.specs.List.{AllByRecursion}
use Rattle.line_tree.specs.Text.{max_len}
use Rattle.change_desc.specs.Sections.{apply, old_size}
use Rattle.selection.specs.Selections.{IsSelection, LieIn, SelectionView}
use Rattle.values.specs.InRange.{IsKeptInRange, IsNoteInRange, IsShownInRange}
use Rattle.values.specs.Views.{IsTransaction, TransactionView}
use Rattle.facet_slots.specs.Scenes.{IsScene, SceneView}

pub transaction-from : (t : TransactionView) (scene : SceneView) → t.start ≡ scene.document → t.start_selection ≡ scene.selection → IsScene scene
    → old_size t.changes ≡ length scene.document → t.document ≡ apply t.changes scene.document → length t.document ≤ max_len → IsSelection t.selection → LieIn (length t.document) t.selection.ranges
    → AllByRecursion IsShownInRange t.effects → AllByRecursion IsKeptInRange t.inverted → AllByRecursion IsNoteInRange t.annotations → IsTransaction t
transaction-from t scene e f is starts document short selection inside effects inverted annotations = record {
  starts = starts ∙ sym (ap length e);
  document = document ∙ sym (ap (apply t.changes) e);
  short = subst (λ (d : List ℕ). length d ≤ max_len) (sym e) is.short;
  new_short = short;
  start_is_selection = subst IsSelection (sym f) is.is_selection;
  is_selection = selection;
  start_inside = subst (λ (d : List ℕ). LieIn (length d) t.start_selection.ranges) (sym e) (subst (λ (s : SelectionView). LieIn (length scene.document) s.ranges) (sym f) is.inside);
  inside = inside;
  effects = effects;
  inverted = inverted;
  annotations = annotations;
}
