-- What a transaction shows of its parts.
use Rattle.std.specs.Prelude.{ℕ, Bool, List}
use Rattle.change_desc.specs.declared.section.Section.{Section}
use Rattle.values.specs.declared.scene.Scene.{Scene}
use Rattle.values.specs.declared.shown_effect.ShownEffect.{ShownEffect}
use Rattle.values.specs.declared.tr_core.TrCore.{TrCore}
use Rattle.values.specs.declared.tr_notes.TrNotes.{TrNotes}
use Rattle.values.specs.Views.{TransactionView}

-- Shown: documents as their characters alone.
abbrev pub shown : List (Section (List ℕ)) → (start end : Scene) → Bool → TrNotes → TransactionView
shown changes start end given notes =
    record {
      changes = changes;
      start = start.document.characters;
      document = end.document.characters;
      start_selection = start.selection;
      selection = end.selection;
      given = given;
      effects = notes.effects;
      inverted = notes.inverted;
      annotations = notes.annotations;
    }

-- What a view shows: its core and its effects.
abbrev pub viewed : TrCore → List ShownEffect → TransactionView
viewed core effects = shown core.changes core.start core.end core.is_given (record { effects = effects; inverted = core.inverted; annotations = core.annotations })
