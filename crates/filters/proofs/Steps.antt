-- One more spec after changes, and several in a row.
use Rattle.std.proofs.Common.{◌≡◌, ◌≢◌, ℕ, ◌≤◌, Bool, true, false, List, [], ◌∷◌, length, fold, Option, Some, None, refl, sym, ap, subst, ◌∙◌}
use Rattle.std.specs.Prelude.{option_map}
use Rattle.std.specs.Option.{option_or}
use Rattle.change_desc.specs.Sections.{spelled, new_size, old_size}
use Rattle.change_desc.specs.Of.{of}
use Rattle.change_set.specs.Changes.{as_sets}
use Rattle.change_set.specs.Refusals.{refusal}
use Rattle.transaction.specs.declared.draft.Draft.{Draft}
use Rattle.transaction.specs.declared.error.TransactionError.{TransactionError}
use Rattle.transaction.specs.declared.error.TransactionError.TheVariants.{BadRange, LengthMismatch, TooLong, NoRanges, BadMain, SelectionOutside, UnknownEffect, UnknownCompartment, NoMemory}
use Rattle.transaction.specs.declared.spec.Spec.{Spec}
use Rattle.transaction.specs.declared.effect_kinds.EffectKinds.{EffectKinds}
use Rattle.transaction.specs.Effects.{ValueMap}
use Rattle.transaction.specs.Merging.{Changes, joined, next_total, own_changes, start_len, with_spec}
use Rattle.transaction.specs.Refusals.{changes_refusal, given_refusal, of_changes_error, selections_refusal, spec_changes_refusal, specs_refusal, too_long, unknown_effect, unknown_in}
use Rattle.values.specs.declared.val.Val.{Val}
use Rattle.values.specs.Rules.{Rules}
use Rattle.filters.specs.declared.check.Checked.{Checked}
use Rattle.filters.specs.Starts.{StartView, StartsIn}
use Rattle.filters.specs.Filtered.{followed_by}
use Rattle.filters.specs.PrivateSteps.{AreShort, Checks, Follow, IsChecked}

or_some : {A : Type 0} (o p : Option A) (a : A) → o ≡ Some a → option_or o p ≡ Some a
or_some (Some b) p a e = e
or_some None p a e = cc

or_none : {A : Type 0} (o p : Option A) → o ≡ None → option_or o p ≡ p
or_none None p e = refl
or_none (Some a) p e = cc

or_end : {A : Type 0} (o : Option A) → option_or o None ≡ o
or_end None = refl
or_end (Some a) = refl

or_assoc : {A : Type 0} (o p q : Option A) → option_or (option_or o p) q ≡ option_or o (option_or p q)
or_assoc (Some a) p q = refl
or_assoc None p q = refl

none_left : {A : Type 0} (o p : Option A) → option_or o p ≡ None → o ≡ None
none_left None p e = refl
none_left (Some a) p e = cc

none_right : {A : Type 0} (o p : Option A) → option_or o p ≡ None → p ≡ None
none_right None p e = e
none_right (Some a) p e = cc

both_none : {A : Type 0} (o p : Option A) → o ≡ None → p ≡ None → option_or o p ≡ None
both_none o p e f = or_none o p e ∙ f

-- one more spec, whose own changes were made over the document that it starts in
module _ (len max : ℕ) (before : Changes) (s : Spec Val) (start : ℕ) (f : start ≡ start_len len (Some before) s.sequential) where
  own-is : (own : Changes) → own ≡ of spelled start (as_sets start s.changes) → own ≡ own_changes len (Some before) s
  own-is own e = e ∙ ap (λ n. of spelled n (as_sets n s.changes)) f

  own-refusal : option_map of_changes_error (refusal start max s.changes) ≡ option_map of_changes_error (refusal (start_len len (Some before) s.sequential) max s.changes)
  own-refusal = ap (λ n. option_map of_changes_error (refusal n max s.changes)) f

  pub refused-own : (e : TransactionError) → option_map of_changes_error (refusal start max s.changes) ≡ Some e → spec_changes_refusal len max (Some before) s ≡ Some e
  refused-own e h = or_some _ (too_long max (next_total (Some before) s.sequential (own_changes len (Some before) s))) e (sym own-refusal ∙ h)

  module _ (own : Changes) (is : own ≡ of spelled start (as_sets start s.changes)) (accepted : refusal start max s.changes ≡ None) where
    total-is : next_total (Some before) s.sequential own ≡ next_total (Some before) s.sequential (own_changes len (Some before) s)
    total-is = ap (next_total (Some before) s.sequential) (own-is own is)

    by-total : spec_changes_refusal len max (Some before) s ≡ too_long max (next_total (Some before) s.sequential own)
    by-total =
        or_none _ _ (sym own-refusal ∙ ap (option_map of_changes_error) accepted) ∙ ap (too_long max) (sym total-is)

    pub refused-total : (e : TransactionError) → too_long max (next_total (Some before) s.sequential own) ≡ Some e → spec_changes_refusal len max (Some before) s ≡ Some e
    refused-total e h = by-total ∙ h

    pub is-checked : (total : Changes) (r : Option TransactionError) → too_long max (next_total (Some before) s.sequential own) ≡ None →
        total ≡ next_total (Some before) s.sequential own → AreShort len max total → r ≡ given_refusal (new_size spelled own) s.selection →
        IsChecked len max before s (record { total = total; refusal = r })
    is-checked total r h t a e = record {
      accepted = by-total ∙ h;
      total = t ∙ total-is;
      refusal = e ∙ ap (λ c. given_refusal (new_size spelled c) s.selection) (own-is own is);
      are_short = a;
    }

-- several specs
pub checks-start : (len max : ℕ) (first : Changes) (all : List (Spec Val)) (total : Changes) → AreShort len max first → total ≡ first → Checks len max first all total None all
checks-start len max first all total a e = record {
  are_short = subst (AreShort len max) (sym e) a;
  changes = ap (λ c. changes_refusal len max (Some c) all) e;
  selections = ap (λ c. selections_refusal len (Some c) all) e;
}

module _ (len max : ℕ) (first : Changes) (all : List (Spec Val)) (total : Changes) (old : Option TransactionError) where
  pub checks-step : (s : Spec Val) (rest : List (Spec Val)) (c : Checked) (new : Option TransactionError) → Checks len max first all total old (s ∷ rest) →
      IsChecked len max total s c → new ≡ option_or old c.refusal → Checks len max first all c.total new rest
  checks-step s rest c new p a n =
      let next : Changes = next_total (Some total) s.sequential (own_changes len (Some total) s) in
      record {
        are_short = a.are_short;
        changes =
            ap (λ t. changes_refusal len max (Some t) rest) a.total ∙
            (sym (or_none (spec_changes_refusal len max (Some total) s) (changes_refusal len max (Some next) rest) a.accepted) ∙ p.changes);
        selections =
            ap (λ t. option_or new (selections_refusal len (Some t) rest)) a.total ∙
            (ap (λ o. option_or o (selections_refusal len (Some next) rest)) (n ∙ ap (option_or old) a.refusal) ∙
            (or_assoc old (given_refusal (new_size spelled (own_changes len (Some total) s)) s.selection) (selections_refusal len (Some next) rest) ∙ p.selections));
      }

  pub checks-refused : (s : Spec Val) (rest : List (Spec Val)) (e : TransactionError) → Checks len max first all total old (s ∷ rest) →
      spec_changes_refusal len max (Some total) s ≡ Some e → option_or (changes_refusal len max (Some first) all) (selections_refusal len (Some first) all) ≡ Some e
  checks-refused s rest e p h = or_some _ _ e (sym p.changes ∙ or_some _ _ e h)

  pub checks-changes : Checks len max first all total old [] → changes_refusal len max (Some first) all ≡ None
  checks-changes p = sym p.changes

  pub checks-selections : Checks len max first all total old [] → selections_refusal len (Some first) all ≡ old
  checks-selections p = sym p.selections ∙ or_end old

  pub checks-end : (e : TransactionError) → Checks len max first all total old [] → old ≡ Some e →
      option_or (changes_refusal len max (Some first) all) (selections_refusal len (Some first) all) ≡ Some e
  checks-end e p h = or_none _ _ (checks-changes p) ∙ (checks-selections p ∙ h)

-- what is wrong with specs whose kinds and compartments are known
pub known-accepted : (len max : ℕ) (kinds : EffectKinds) (first : Changes) (all : List (Spec Val)) → unknown_effect kinds all ≡ None →
    changes_refusal len max (Some first) all ≡ None → selections_refusal len (Some first) all ≡ None → specs_refusal len max kinds (Some first) all ≡ None
known-accepted len max kinds first all u h k = both_none _ _ u (both_none _ _ h k)

pub known-refused : (len max : ℕ) (kinds : EffectKinds) (first : Changes) (all : List (Spec Val)) (e : TransactionError) → unknown_effect kinds all ≡ None →
    option_or (changes_refusal len max (Some first) all) (selections_refusal len (Some first) all) ≡ Some e → specs_refusal len max kinds (Some first) all ≡ Some e
known-refused len max kinds first all e u h = or_none _ _ u ∙ h

pub unknown-refused : (len max : ℕ) (kinds : EffectKinds) (first : Changes) (all : List (Spec Val)) (e : TransactionError) → unknown_effect kinds all ≡ Some e →
    specs_refusal len max kinds (Some first) all ≡ Some e
unknown-refused len max kinds first all e u = or_some _ _ e u

-- specs that follow a draft
joined-changes : (kinds : EffectKinds) (map_value : ValueMap Val) (b : Bool) (d n : Draft Val) → (joined kinds map_value b d n).changes ≡ next_total (Some d.changes) b n.changes
joined-changes kinds map_value true d n = refl
joined-changes kinds map_value false d n = refl

module _ (len max : ℕ) (kinds : EffectKinds) (before : Changes) (s : Spec Val) (rest : List (Spec Val)) (h : specs_refusal len max kinds (Some before) (s ∷ rest) ≡ None) where
  unknown-none : unknown_effect kinds (s ∷ rest) ≡ None
  unknown-none = none_left _ _ h

  changes-none : changes_refusal len max (Some before) (s ∷ rest) ≡ None
  changes-none = none_left _ (selections_refusal len (Some before) (s ∷ rest)) (none_right (unknown_effect kinds (s ∷ rest)) _ h)

  selections-none : selections_refusal len (Some before) (s ∷ rest) ≡ None
  selections-none = none_right (changes_refusal len max (Some before) (s ∷ rest)) _ (none_right (unknown_effect kinds (s ∷ rest)) _ h)

  -- the next alone
  pub next-accepted : specs_refusal len max kinds (Some before) (s ∷ []) ≡ None
  next-accepted =
      both_none _ _ (both_none _ _ (none_left (unknown_in kinds s.effects) (unknown_effect kinds rest) unknown-none) refl)
      (both_none _ _ (both_none _ _ (none_left (spec_changes_refusal len max (Some before) s) _ changes-none) refl)
      (both_none _ _ (none_left (given_refusal (new_size spelled (own_changes len (Some before) s)) s.selection) _ selections-none) refl))

  -- those after it
  pub rest-accepted : (total : Changes) → total ≡ next_total (Some before) s.sequential (own_changes len (Some before) s) → specs_refusal len max kinds (Some total) rest ≡ None
  rest-accepted total e =
      ap (λ t. specs_refusal len max kinds (Some t) rest) e ∙
      both_none _ _ (none_right (unknown_in kinds s.effects) _ unknown-none)
      (both_none _ _ (none_right (spec_changes_refusal len max (Some before) s) _ changes-none)
      (none_right (given_refusal (new_size spelled (own_changes len (Some before) s)) s.selection) _ selections-none))

pub follow-step : (rules : Rules) (start : StartView) (first : Draft Val) (all : List (Spec Val)) (d next : Draft Val) (s : Spec Val) (rest : List (Spec Val)) →
    Follow rules start first all d (s ∷ rest) → next ≡ with_spec start.kinds rules.map_effect (length start.document) (Some d) s → StartsIn start next → Follow rules start first all next rest
follow-step rules start first all d next s rest p e i =
    let len : ℕ = length start.document in
    let total : next.changes ≡ next_total (Some d.changes) s.sequential (own_changes len (Some d.changes) s) =
    ap (λ v. v.changes) e ∙ joined-changes start.kinds rules.map_effect s.sequential d _ in
    record {
      starts = i;
      accepted = rest-accepted len start.max start.kinds d.changes s rest p.accepted next.changes total;
      value = ap (λ v. followed_by rules start v rest) e ∙ p.value;
    }

-- a refusal of what isn't refused is none
pub only-memory : (error : TransactionError) (o : Option TransactionError) → o ≡ None → (error ≢ NoMemory → o ≡ Some error) → error ≡ NoMemory
only-memory NoMemory o n h = refl
only-memory (BadRange i f t l) o n h = let e : o ≡ Some (BadRange i f t l) = h (λ q. cc) in cc
only-memory (LengthMismatch a b) o n h = let e : o ≡ Some (LengthMismatch a b) = h (λ q. cc) in cc
only-memory (TooLong l m) o n h = let e : o ≡ Some (TooLong l m) = h (λ q. cc) in cc
only-memory NoRanges o n h = let e : o ≡ Some NoRanges = h (λ q. cc) in cc
only-memory (BadMain m k) o n h = let e : o ≡ Some (BadMain m k) = h (λ q. cc) in cc
only-memory (SelectionOutside p l) o n h = let e : o ≡ Some (SelectionOutside p l) = h (λ q. cc) in cc
only-memory (UnknownEffect i) o n h = let e : o ≡ Some (UnknownEffect i) = h (λ q. cc) in cc
only-memory (UnknownCompartment i) o n h = let e : o ≡ Some (UnknownCompartment i) = h (λ q. cc) in cc
