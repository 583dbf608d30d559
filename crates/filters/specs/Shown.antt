-- What rules are shown of a draft (manual: Transaction).
use Rattle.std.specs.Prelude.{ℕ, Bool, cond, is_some, List, filter_map, Option, Some, None, unwrap_or}
use Rattle.change_desc.specs.Sections.{spelled, lengths, apply}
use Rattle.cm_plain.specs.declared.kept_effect.KeptEffect.{KeptEffect}
use Rattle.selection.specs.Selections.{SelectionView, moved_selection, single_of}
use Rattle.transaction.specs.declared.draft.Draft.{Draft}
use Rattle.transaction.specs.declared.effect.Effect.{Effect}
use Rattle.transaction.specs.declared.effect.Effect.TheVariants.{Kind}
use Rattle.values.specs.declared.shown_effect.ShownEffect.{ShownEffect}
use Rattle.values.specs.declared.val.Val.{Val}
use Rattle.values.specs.Views.{TransactionView}
use Rattle.filters.specs.Starts.{StartView}

-- a selection, or its main range alone where several ranges aren't allowed (manual: EditorState.allowMultipleSelections)
abbrev pub allowed : (allows_multiple : Bool) → SelectionView → SelectionView
allowed allows_multiple s = cond allows_multiple s (single_of s)

-- New selection: the given one, or else the start one mapped (manual: Transaction.newSelection).
abbrev pub new_selection : StartView → Draft Val → SelectionView
new_selection s d = allowed s.allows_multiple (unwrap_or d.selection (moved_selection (lengths spelled d.changes) s.selection))

-- an effect of a kind as it is shown; one on the configuration isn't
abbrev pub shown_effect : Effect Val → Option ShownEffect
shown_effect (Kind id value) = Some (record { id = id; value = value })
shown_effect e = None

-- Shown: the draft's changes with both documents and selections, all its effects that have a kind, what undoes effects, and its
-- annotations.
abbrev pub shown_of : StartView → List KeptEffect → Draft Val → TransactionView
shown_of s inverted d =
    record {
      changes = d.changes;
      start = s.document;
      document = apply d.changes s.document;
      start_selection = s.selection;
      selection = new_selection s d;
      given = is_some d.selection;
      effects = filter_map shown_effect d.effects;
      inverted = inverted;
      annotations = d.annotations;
    }
