-- The state that a transaction starts in (manual: Transaction.startState), as far as filters go by it.
use Rattle.std.specs.Prelude.{◌≡◌, ℕ, ◌≤◌, Bool, List, length}
use Rattle.line_tree.specs.Text.{max_len}
use Rattle.change_desc.specs.Sections.{spelled, new_size}
use Rattle.selection.specs.Selections.{SelectionView, LieIn}
use Rattle.transaction.specs.declared.draft.Draft.{Draft}
use Rattle.transaction.specs.declared.effect_kinds.EffectKinds.{EffectKinds}
use Rattle.transaction.specs.Merging.{IsDraft}
use Rattle.values.specs.declared.val.Val.{Val}
use Rattle.filters.specs.declared.start.Start.{Start}

-- Start: the document and its selection, whether a selection may have several ranges, what effects can name, and how many
-- characters a document may have.
pub record StartView : Type 0 where
  pub document : List ℕ
  pub selection : SelectionView
  pub allows_multiple : Bool
  pub kinds : EffectKinds
  pub max : ℕ

abbrev pub start_of : Start → StartView
start_of s =
    record { document = s.document.now.characters; selection = s.selection.now; allows_multiple = s.allows_multiple; kinds = s.kinds.now; max = s.max }

-- what filters may rely on in a start: no document is longer than rules are shown, and the selection lies in the document
pub record IsStart (s : StartView) : Type 0 where
  pub limit : s.max ≤ max_len
  pub short : length s.document ≤ s.max
  pub inside : LieIn (length s.document) s.selection.ranges

-- a draft over the start document whose new document is not too long
pub record StartsIn (s : StartView) (d : Draft Val) : Type 0 where
  pub is_draft : IsDraft (length s.document) d
  pub short : new_size spelled d.changes ≤ s.max
