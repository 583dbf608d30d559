-- One more spec. Private.
use Rattle.std.specs.Prelude.{◌≡◌, ℕ, ◌≤◌, Bool, List, fold, Option, Some, None, option_map}
use Rattle.std.specs.Option.{option_or}
use Rattle.change_desc.specs.Sections.{spelled, new_size}
use Rattle.transaction.specs.declared.draft.Draft.{Draft}
use Rattle.transaction.specs.declared.effect_kinds.EffectKinds.{EffectKinds}
use Rattle.transaction.specs.declared.error.TransactionError.{TransactionError}
use Rattle.transaction.specs.declared.spec.Spec.{Spec}
use Rattle.transaction.specs.Effects.{ValueMap}
use Rattle.transaction.specs.Merging.{Changes, IsDraft, joined, next_draft, next_total, own_changes, with_spec}
use Rattle.transaction.specs.Refusals.{changes_refusal, given_refusal, selections_refusal, spec_changes_refusal, too_long}

-- what was done before, if anything was
abbrev pub changes_before : {V : Type 0} → Option (Draft V) → Option Changes
changes_before = option_map (λ d. d.changes)

-- a draft whose document is not too long
pub record IsShort {V : Type 0} (len max : ℕ) (d : Draft V) : Type 0 where
  pub is_draft : IsDraft len d
  pub short : new_size spelled d.changes ≤ max

abbrev pub IsBefore : {V : Type 0} → (len max : ℕ) → Option (Draft V) → Type 0
IsBefore len max None = Unit {0}
IsBefore len max (Some d) = IsShort len max d

abbrev pub joined_after : {V : Type 0} → EffectKinds → ValueMap V → Option (Draft V) → (sequential : Bool) → Draft V → Draft V
joined_after kinds map_value None sequential b = b
joined_after kinds map_value (Some a) sequential b = joined kinds map_value sequential a b

-- a draft after what was done before
pub record Follows {V : Type 0} (len max : ℕ) (kinds : EffectKinds) (map_value : ValueMap V) (before : Option (Draft V)) (sequential : Bool) (next d : Draft V) : Type 0 where
  pub accepted : too_long max (next_total (changes_before before) sequential next.changes) ≡ None
  pub value : d ≡ joined_after kinds map_value before sequential next
  pub is_draft : IsDraft len d

-- one more spec: the changes always go on, and the draft does as long as no selection was refused
pub record Advances {V : Type 0} (len max : ℕ) (kinds : EffectKinds) (map_value : ValueMap V) (before : Option (Draft V)) (s : Spec V)
    (old new : Option TransactionError) (d : Draft V) : Type 0 where
  pub accepted : spec_changes_refusal len max (changes_before before) s ≡ None
  pub changes : d.changes ≡ next_total (changes_before before) s.sequential (own_changes len (changes_before before) s)
  pub refusal : new ≡ option_or old (given_refusal (new_size spelled (own_changes len (changes_before before) s)) s.selection)
  pub value : new ≡ None → d ≡ with_spec kinds map_value len before s
  pub is_short : IsShort len max d

-- several specs, of which some are left: what was done and what is left come to the whole
pub record Progress {V : Type 0} (len max : ℕ) (kinds : EffectKinds) (map_value : ValueMap V) (all : List (Spec V))
    (before : Option (Draft V)) (refusal : Option TransactionError) (rest : List (Spec V)) : Type 0 where
  pub before_is : IsBefore len max before
  pub changes : changes_refusal len max (changes_before before) rest ≡ changes_refusal len max None all
  pub selections : option_or refusal (selections_refusal len (changes_before before) rest) ≡ selections_refusal len None all
  pub value : refusal ≡ None → fold (next_draft kinds map_value len) before rest ≡ fold (next_draft kinds map_value len) None all
