-- How specs are merged into one draft (manual: TransactionSpec, EditorState.update).
use Rattle.std.specs.Prelude.{◌≡◌, ℕ, ◌≤◌, Bool, true, false, ◌&&◌, List, [], ◌∷◌, ◌++◌, fold, Option, Some, None, option_map}
use Rattle.std.specs.Option.{option_or, unwrap_or}
use Rattle.change_desc.specs.declared.section.Section.{Section}
use Rattle.change_desc.specs.declared.section.Section.TheVariants.{Keep}
use Rattle.change_desc.specs.Sections.{spelled, counted, lengths, new_size, old_size, normal}
use Rattle.change_desc.specs.Compose.{compose}
use Rattle.change_desc.specs.Map.{map_over}
use Rattle.change_desc.specs.Of.{of, then_also}
use Rattle.change_set.specs.Changes.{as_sets}
use Rattle.selection.specs.Selections.{LieIn, SelectionView, moved_selection, normal_form}
use Rattle.transaction.specs.declared.draft.Draft.{Draft}
use Rattle.transaction.specs.declared.effect_kinds.EffectKinds.{EffectKinds}
use Rattle.transaction.specs.declared.spec.Spec.{Spec}
use Rattle.transaction.specs.declared.spec.SelectionSpec.{SelectionSpec}
use Rattle.transaction.specs.Effects.{ValueMap, moved_effects}
use Rattle.transaction.specs.Specs.{all_annotations}

-- a set of changes over a document
abbrev pub Changes : Type 0
Changes = List (Section (List ℕ))

-- the document that a spec starts in: the start document, or the one after those before where it is sequential
abbrev pub start_len : (len : ℕ) → (before : Option Changes) → (sequential : Bool) → ℕ
start_len len (Some total) true = new_size spelled total
start_len len before sequential = len

-- a spec's changes, over the document that it starts in
abbrev pub own_changes : {V : Type 0} → (len : ℕ) → (before : Option Changes) → Spec V → Changes
own_changes len before s = let start = start_len len before s.sequential in of spelled start (as_sets start s.changes)

-- the changes so far and then those of one more spec, which are mapped over them where it isn't sequential
abbrev pub next_total : (before : Option Changes) → (sequential : Bool) → (own : Changes) → Changes
next_total None sequential own = own
next_total (Some total) true own = compose spelled total own
next_total (Some total) false own = then_also spelled total own

-- the normal form of a given selection
abbrev pub given_selection : Option SelectionSpec → Option SelectionView
given_selection = option_map (λ (s : SelectionSpec). normal_form s.ranges s.main)

-- a spec by itself, over the document that it starts in
abbrev pub spec_draft : {V : Type 0} → (own : Changes) → Spec V → Draft V
spec_draft own s =
    record { changes = own; selection = given_selection s.selection; effects = s.effects; annotations = all_annotations s; filter = s.filter }

-- no spec at all is an empty transaction
abbrev pub empty_draft : {V : Type 0} → (len : ℕ) → Draft V
empty_draft len = record { changes = normal spelled (Keep len ∷ []); selection = None; effects = []; annotations = []; filter = true }

module _ {V : Type 0} (kinds : EffectKinds) (map_value : ValueMap V) where
  -- Merge with a sequential spec, which starts after the draft: the draft's selection and effects are mapped over it.
  abbrev pub followed : Draft V → Draft V → Draft V
  followed a b =
      let over = lengths spelled b.changes in
      record {
        changes = compose spelled a.changes b.changes;
        selection = option_or b.selection (option_map (moved_selection over) a.selection);
        effects = moved_effects kinds map_value over a.effects ++ b.effects;
        annotations = a.annotations ++ b.annotations;
        filter = a.filter && b.filter;
      }

  -- Merge with a spec over the same start document: its changes are mapped over the draft's, and the selection and effects of
  -- each over what the other does. Where texts meet, the draft's stand first.
  abbrev pub beside : Draft V → Draft V → Draft V
  beside a b =
      let over = lengths spelled (map_over spelled b.changes (lengths spelled a.changes) false) in
      let back = map_over counted (lengths spelled a.changes) (lengths spelled b.changes) true in
      record {
        changes = then_also spelled a.changes b.changes;
        selection = option_or (option_map (moved_selection back) b.selection) (option_map (moved_selection over) a.selection);
        effects = moved_effects kinds map_value over a.effects ++ moved_effects kinds map_value back b.effects;
        annotations = a.annotations ++ b.annotations;
        filter = a.filter && b.filter;
      }

  abbrev pub joined : (sequential : Bool) → Draft V → Draft V → Draft V
  joined true a b = followed a b
  joined false a b = beside a b

  -- One more spec: the first is the draft itself, and nothing of it is mapped; each next is merged with the draft so far. The
  -- last given selection counts, effects and annotations stand in order, and one spec without filters stands for all.
  abbrev pub with_spec : (len : ℕ) → Option (Draft V) → Spec V → Draft V
  with_spec len None s = spec_draft (own_changes len None s) s
  with_spec len (Some a) s = joined s.sequential a (spec_draft (own_changes len (Some a.changes) s) s)

  abbrev pub next_draft : (len : ℕ) → Option (Draft V) → Spec V → Option (Draft V)
  next_draft len before s = Some (with_spec len before s)

  -- Draft: the specs of a list merged in order.
  abbrev pub merged : (len : ℕ) → List (Spec V) → Draft V
  merged len specs = unwrap_or (fold (next_draft len) None specs) (empty_draft len)

-- a selection, if there is one, lies in a document of this length
abbrev pub SelectionIn : ℕ → Option SelectionView → Type 0
SelectionIn len None = Unit {0}
SelectionIn len (Some s) = LieIn len s.ranges

-- a draft over a start document of this length, with its selection in the new document
pub record IsDraft {V : Type 0} (len : ℕ) (d : Draft V) : Type 0 where
  pub starts : old_size d.changes ≡ len
  pub inside : SelectionIn (new_size spelled d.changes) d.selection
