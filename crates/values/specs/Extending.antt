-- The shipped transaction extenders (manual: EditorState.transactionExtender). Each is given the transaction and the value of the
-- facet `filterData`.
use Rattle.std.specs.Prelude.{ℕ, true, cond, pos, List, [], ◌∷◌, length, codes}
use Rattle.change_desc.specs.Ranges.{changes_nothing}
use Rattle.cm_plain.specs.declared.plain.Plain.TheVariants as plain
use Rattle.transaction.specs.declared.annotation.Annotation.{Annotation}
use Rattle.transaction.specs.declared.effect.Effect.TheVariants.{Kind}
use Rattle.values.specs.declared.answers.Extension.{Extension}
use Rattle.values.specs.declared.val.Val.{Val}
use Rattle.values.specs.Views.{TransactionView}
use Rattle.values.specs.Reading.{row, int}

abbrev pub nothing_more : Extension
nothing_more = record { effects = []; annotations = [] }

-- that the transaction changes something
abbrev pub touched : Annotation
touched = record { kind = codes "touched"; value = plain.Bool true }

abbrev pub touched_note : TransactionView → Extension
touched_note t = cond (changes_nothing t.changes) nothing_more (record { effects = []; annotations = touched ∷ [] })

-- the effect kind `note`, the first that is declared
abbrev pub note_kind : ℕ
note_kind = 0

abbrev pub start_length : TransactionView → Extension
start_length t = record { effects = Kind note_kind (int (pos (length t.start))) ∷ []; annotations = [] }

-- Extend: by the rule's number.
abbrev pub extend : ℕ → TransactionView → (filter_data : Val) → Extension
extend n =
    row n (λ t given. nothing_more)
    ((1, λ t given. nothing_more)
    ∷ (2, λ t given. touched_note t)
    ∷ (3, λ t given. start_length t)
    ∷ [])
