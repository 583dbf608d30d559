-- Change filters: which changes of a draft stay (manual: EditorState.changeFilter).
use Rattle.std.specs.Prelude.{ℕ, false, List, [], ◌∷◌, ◌++◌, Ok, option_map}
use Rattle.change_desc.specs.declared.section.Section.{Section}
use Rattle.change_desc.specs.declared.section.Section.TheVariants.{Keep}
use Rattle.change_desc.specs.Sections.{spelled, counted, lengths, inverted, normal, old_size}
use Rattle.change_desc.specs.Map.{map_over}
use Rattle.change_desc.specs.Filter.{filter_kept, filter_dropped}
use Rattle.selection.specs.Selections.{moved_selection}
use Rattle.transaction.specs.declared.draft.Draft.{Draft}
use Rattle.transaction.specs.Effects.{moved_effects}
use Rattle.transaction.specs.Merging.{Changes}
use Rattle.transaction.specs.Refusals.{too_long}
use Rattle.values.specs.declared.answers.Guarding.{Guarding}
use Rattle.values.specs.declared.answers.Guarding.TheVariants.{All, Nothing, Protected}
use Rattle.values.specs.declared.val.Val.{Val}
use Rattle.values.specs.Rules.{Rules}
use Rattle.values.specs.Views.{TransactionView}
use Rattle.filters.specs.Starts.{StartView}
use Rattle.filters.specs.Outcomes.{Outcome, unless}

-- what a change filter says, and what those of lower precedence say: where it lets no change stay, they aren't asked; protected
-- ranges of several are joined
abbrev pub both : Guarding → (lower : Guarding) → Guarding
both All lower = lower
both Nothing lower = Nothing
both (Protected rs) All = Protected rs
both (Protected rs) Nothing = Nothing
both (Protected rs) (Protected qs) = Protected (rs ++ qs)

-- Guarding: what change filters say together, asked from the highest precedence to the lowest.
abbrev pub guarding : Rules → (filter_data : Val) → TransactionView → List ℕ → Guarding
guarding rules filter_data t [] = All
guarding rules filter_data t (n ∷ ns) = both (rules.guard n t filter_data) (guarding rules filter_data t ns)

-- no change of a document
abbrev pub no_changes : (len : ℕ) → Changes
no_changes len = normal spelled (Keep len ∷ [])

-- Kept and dropped: the two parts of changes, both over the start document.
abbrev pub kept : Guarding → Changes → Changes
kept All s = s
kept Nothing s = no_changes (old_size s)
kept (Protected rs) s = filter_kept spelled rs s

abbrev pub dropped : Guarding → Changes → Changes
dropped All s = no_changes (old_size s)
dropped Nothing s = s
dropped (Protected rs) s = filter_dropped spelled rs s

-- Way back: from the new document of all changes to that of the kept ones, which is the inverse of the dropped ones, mapped over
-- the kept ones.
abbrev pub way_back : (kept dropped : Changes) → List (Section ℕ)
way_back kept dropped = inverted (map_over counted (lengths spelled dropped) (lengths spelled kept) false)

-- a draft of which these changes are kept: a given selection and the effects go the way back
abbrev pub reduced : Rules → StartView → (kept : Changes) → (back : List (Section ℕ)) → Draft Val → Draft Val
reduced rules start kept back d =
    record {
      changes = kept;
      selection = option_map (moved_selection back) d.selection;
      effects = moved_effects start.kinds rules.map_effect back d.effects;
      annotations = d.annotations;
      filter = d.filter;
    }

-- the parts of a draft's changes, where the kept ones must not lead to a document that is too long
abbrev pub with_parts : Rules → StartView → (kept dropped : Changes) → Draft Val → Outcome
with_parts rules start kept dropped d = unless (too_long start.max kept) (reduced rules start kept (way_back kept dropped) d)

-- Guarded: the draft itself where all changes stay. Else what is kept of it, even where nothing is dropped: then the selection
-- and the effects are mapped over no change.
abbrev pub guarded : Rules → StartView → Guarding → Draft Val → Outcome
guarded rules start All d = Ok d
guarded rules start Nothing d = with_parts rules start (kept Nothing d.changes) (dropped Nothing d.changes) d
guarded rules start (Protected rs) d = with_parts rules start (kept (Protected rs) d.changes) (dropped (Protected rs) d.changes) d
