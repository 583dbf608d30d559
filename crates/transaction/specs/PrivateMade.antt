-- A spec that was made into a draft by itself. Private.
use Rattle.std.specs.Prelude.{◌≡◌, ℕ, ◌≤◌, Option, None}
use Rattle.change_desc.specs.Sections.{spelled, new_size, old_size}
use Rattle.change_desc.specs.Of.{of}
use Rattle.change_set.specs.Changes.{as_sets}
use Rattle.change_set.specs.Refusals.{refusal}
use Rattle.transaction.specs.declared.spec.Made.{Made}
use Rattle.transaction.specs.declared.spec.MadeSelection.{MadeSelection}
use Rattle.transaction.specs.declared.spec.SelectionSpec.{SelectionSpec}
use Rattle.transaction.specs.declared.spec.Spec.{Spec}
use Rattle.transaction.specs.Specs.{all_annotations}
use Rattle.transaction.specs.Merging.{Changes, SelectionIn, given_selection, spec_draft}
use Rattle.transaction.specs.Refusals.{given_refusal}

-- the selection and the refusal are those of the given ranges
pub record IsMadeSelection (len : ℕ) (given : Option SelectionSpec) (m : MadeSelection) : Type 0 where
  pub refusal : m.refusal ≡ given_refusal len given
  pub value : m.refusal ≡ None → m.selection ≡ given_selection given
  pub inside : SelectionIn len m.selection

-- a spec as a draft of these changes, with a selection that was made
pub record IsWith {V : Type 0} (own : Changes) (given : MadeSelection) (s : Spec V) (m : Made V) : Type 0 where
  pub draft : m.draft.value ≡ record { changes = own; selection = given.selection; effects = s.effects; annotations = all_annotations s; filter = s.filter }
  pub refusal : m.refusal ≡ given.refusal
  pub sequential : m.sequential ≡ s.sequential

-- the draft and the refusal are those of the spec
pub record IsMade {V : Type 0} (start max : ℕ) (s : Spec V) (m : Made V) : Type 0 where
  pub accepted : refusal start max s.changes ≡ None
  pub changes : m.draft.value.changes ≡ of spelled start (as_sets start s.changes)
  pub starts : old_size m.draft.value.changes ≡ start
  pub short : new_size spelled m.draft.value.changes ≤ max
  pub refusal : m.refusal ≡ given_refusal (new_size spelled m.draft.value.changes) s.selection
  pub value : m.refusal ≡ None → m.draft.value ≡ spec_draft (of spelled start (as_sets start s.changes)) s
  pub inside : SelectionIn (new_size spelled m.draft.value.changes) m.draft.value.selection
  pub sequential : m.sequential ≡ s.sequential
