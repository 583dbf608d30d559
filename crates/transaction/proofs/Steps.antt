-- One more spec, and several in a row.
use Rattle.std.proofs.Common.{◌≡◌, ℕ, ◌≤◌, Bool, true, false, List, [], ◌∷◌, fold, Option, Some, None, refl, sym, ap, subst, ◌∙◌}
use Rattle.std.specs.Prelude.{IfOk, Result, Ok, Err, option_map}
use Rattle.std.specs.Option.{option_or, unwrap_or}
use Rattle.change_desc.specs.Sections.{spelled, new_size, old_size}
use Rattle.change_desc.specs.Of.{of}
use Rattle.change_set.specs.Changes.{as_sets}
use Rattle.change_set.specs.Refusals.{refusal}
use Rattle.change_set.proofs.Sizes.{new_size-compose}
use Rattle.transaction.specs.declared.draft.Draft.{Draft}
use Rattle.transaction.specs.declared.error.TransactionError.{TransactionError}
use Rattle.transaction.specs.declared.spec.Made.{Made}
use Rattle.transaction.specs.declared.spec.Spec.{Spec}
use Rattle.transaction.specs.declared.effect_kinds.EffectKinds.{EffectKinds}
use Rattle.transaction.specs.Effects.{ValueMap}
use Rattle.transaction.specs.Merging.{Changes, IsDraft, empty_draft, joined, merged, next_draft, next_total, own_changes, spec_draft, start_len, with_spec}
use Rattle.transaction.specs.Refusals.{changes_refusal, given_refusal, of_changes_error, selections_refusal, spec_changes_refusal, specs_refusal, too_long, unknown_effect, unknown_in}
use Rattle.transaction.specs.PrivateMade.{IsMade}
use Rattle.transaction.specs.PrivateSteps.{Advances, Follows, IsShort, Progress, changes_before, joined_after}
use Rattle.transaction.proofs.Meetings.{not_long}
use Rattle.transaction.proofs.Within.{is-short}

or_some : {A : Type 0} (o p : Option A) (a : A) → o ≡ Some a → option_or o p ≡ Some a
or_some (Some b) p a e = e
or_some None p a e = cc

or_none : {A : Type 0} (o p : Option A) → o ≡ None → option_or o p ≡ p
or_none None p e = refl
or_none (Some a) p e = cc

or_assoc : {A : Type 0} (o p q : Option A) → option_or (option_or o p) q ≡ option_or o (option_or p q)
or_assoc (Some a) p q = refl
or_assoc None p q = refl

none_left : {A : Type 0} (o p : Option A) → option_or o p ≡ None → o ≡ None
none_left None p e = refl
none_left (Some a) p e = cc

none_right : {A : Type 0} (o p : Option A) → option_or o p ≡ None → p ≡ None
none_right None p e = e
none_right (Some a) p e = cc

module _ {V : Type 0} (len max : ℕ) (before : Option Changes) (s : Spec V) where
  pub refused_by_changes : (start : ℕ) (e : TransactionError) → start ≡ start_len len before s.sequential →
      option_map of_changes_error (refusal start max s.changes) ≡ Some e → spec_changes_refusal len max before s ≡ Some e
  refused_by_changes start e f h =
      or_some _ (too_long max (next_total before s.sequential (own_changes len before s))) e (ap (λ n. option_map of_changes_error (refusal n max s.changes)) (sym f) ∙ h)

  -- the changes of a spec that was made
  made-changes : (start : ℕ) (m : Made V) → start ≡ start_len len before s.sequential → IsMade start max s m → m.draft.value.changes ≡ own_changes len before s
  made-changes start m f h = h.changes ∙ ap (λ n. of spelled n (as_sets n s.changes)) f

  made-total : (start : ℕ) (m : Made V) → start ≡ start_len len before s.sequential → IsMade start max s m →
      next_total before m.sequential m.draft.value.changes ≡ next_total before s.sequential (own_changes len before s)
  made-total start m f h =
      ap (λ b. next_total before b m.draft.value.changes) h.sequential ∙ ap (next_total before s.sequential) (made-changes start m f h)

  made-accepted : (start : ℕ) (m : Made V) → start ≡ start_len len before s.sequential → IsMade start max s m →
      spec_changes_refusal len max before s ≡ too_long max (next_total before s.sequential (own_changes len before s))
  made-accepted start m f h =
      or_none _ _ (ap (λ n. option_map of_changes_error (refusal n max s.changes)) (sym f) ∙ ap (option_map of_changes_error) h.accepted)

  pub refused_by_length : (start : ℕ) (m : Made V) (e : TransactionError) → start ≡ start_len len before s.sequential → IsMade start max s m →
      too_long max (next_total before m.sequential m.draft.value.changes) ≡ Some e → spec_changes_refusal len max before s ≡ Some e
  refused_by_length start m e f h k = made-accepted start m f h ∙ (ap (too_long max) (sym (made-total start m f h)) ∙ k)

-- a spec after a draft that it follows
pub follows-sequential : {V : Type 0} (len max : ℕ) (kinds : EffectKinds) (map_value : ValueMap V) (a next d : Draft V) → IsDraft len a →
    old_size next.changes ≡ new_size spelled a.changes → new_size spelled next.changes ≤ max → d ≡ joined kinds map_value true a next → IsDraft (old_size a.changes) d →
    Follows len max kinds map_value (Some a) true next d
follows-sequential len max kinds map_value a next d h e l v i = record {
  accepted = not_long max (new_size spelled next.changes) (next_total (Some a.changes) true next.changes) (sym (new_size-compose a.changes next.changes (sym e))) l;
  value = v;
  is_draft = subst (λ n. IsDraft n d) h.starts i;
}

-- a spec beside a draft over the same start document
pub follows-beside : {V B : Type 0} (value : B → Draft V) (len max : ℕ) (kinds : EffectKinds) (map_value : ValueMap V) (a next : Draft V) (r : Result B TransactionError) → IsDraft len a →
    IfOk r (λ d. value d ≡ joined kinds map_value false a next) → IfOk r (λ d. IsDraft (old_size a.changes) (value d)) →
    IfOk r (λ d. too_long max (next_total (Some a.changes) false next.changes) ≡ None) → IfOk r (λ d. Follows len max kinds map_value (Some a) false next (value d))
follows-beside value len max kinds map_value a next (Ok d) h v i n = record { accepted = n; value = v; is_draft = subst (λ n. IsDraft n (value d)) h.starts i }
follows-beside value len max kinds map_value a next (Err e) h v i n = tt

module _ {V : Type 0} (len max : ℕ) (kinds : EffectKinds) (map_value : ValueMap V) where
  after-spec : (before : Option (Draft V)) (s : Spec V) →
      joined_after kinds map_value before s.sequential (spec_draft (own_changes len (changes_before before) s) s) ≡ with_spec kinds map_value len before s
  after-spec None s = refl
  after-spec (Some a) s = refl

  follows-changes : (before : Option (Draft V)) (sequential : Bool) (next d : Draft V) → d ≡ joined_after kinds map_value before sequential next →
      d.changes ≡ next_total (changes_before before) sequential next.changes
  follows-changes None sequential next d e = ap (λ v. v.changes) e
  follows-changes (Some a) true next d e = ap (λ v. v.changes) e
  follows-changes (Some a) false next d e = ap (λ v. v.changes) e

  pub advances : (before : Option (Draft V)) (s : Spec V) (start : ℕ) (m : Made V) (old new : Option TransactionError) (d : Draft V) →
      start ≡ start_len len (changes_before before) s.sequential → IsMade start max s m → new ≡ option_or old m.refusal →
      Follows len max kinds map_value before m.sequential m.draft.value d → Advances len max kinds map_value before s old new d
  advances before s start m old new d f h e k =
      let own : m.draft.value.changes ≡ own_changes len (changes_before before) s = made-changes len max (changes_before before) s start m f h in
      record {
        accepted = made-accepted len max (changes_before before) s start m f h ∙ (ap (too_long max) (sym (made-total len max (changes_before before) s start m f h)) ∙ k.accepted);
        changes = follows-changes before m.sequential m.draft.value d k.value ∙ made-total len max (changes_before before) s start m f h;
        refusal = e ∙ ap (option_or old) (h.refusal ∙ ap (λ c. given_refusal (new_size spelled c) s.selection) own);
        value = λ none.
            k.value ∙
            (ap (λ b. joined_after kinds map_value before b m.draft.value) h.sequential ∙
            (ap (joined_after kinds map_value before s.sequential)
            (h.value (none_right old m.refusal (sym e ∙ none)) ∙ ap (λ c. spec_draft c s) (sym h.changes ∙ own)) ∙
            after-spec before s));
        is_short = record {
          is_draft = k.is_draft;
          short = subst (λ c. new_size spelled c ≤ max) (sym (follows-changes before m.sequential m.draft.value d k.value)) (is-short max _ k.accepted);
        };
      }

  pub progress-step : (all : List (Spec V)) (before : Option (Draft V)) (s : Spec V) (rest : List (Spec V)) (old new : Option TransactionError) (d : Draft V) →
      Progress len max kinds map_value all before old (s ∷ rest) → Advances len max kinds map_value before s old new d → Progress len max kinds map_value all (Some d) new rest
  progress-step all before s rest old new d p a =
      let total = next_total (changes_before before) s.sequential (own_changes len (changes_before before) s) in
      record {
        before_is = a.is_short;
        changes =
            ap (λ c. changes_refusal len max (Some c) rest) a.changes ∙
            (sym (or_none (spec_changes_refusal len max (changes_before before) s) (changes_refusal len max (Some total) rest) a.accepted) ∙ p.changes);
        selections =
            ap (λ c. option_or new (selections_refusal len (Some c) rest)) a.changes ∙
            (ap (λ o. option_or o (selections_refusal len (Some total) rest)) a.refusal ∙
            (or_assoc old (given_refusal (new_size spelled (own_changes len (changes_before before) s)) s.selection) (selections_refusal len (Some total) rest) ∙ p.selections));
        value = λ none.
            ap (λ v. fold (next_draft kinds map_value len) (Some v) rest) (a.value none) ∙ p.value (none_left old _ (sym a.refusal ∙ none));
      }

  pub progress-refused : (all : List (Spec V)) (before : Option (Draft V)) (s : Spec V) (rest : List (Spec V)) (old : Option TransactionError) (e : TransactionError) →
      Progress len max kinds map_value all before old (s ∷ rest) → spec_changes_refusal len max (changes_before before) s ≡ Some e → changes_refusal len max None all ≡ Some e
  progress-refused all before s rest old e p h = sym p.changes ∙ or_some _ _ e h

  pub refused-changes : (known : EffectKinds) (start : Option Changes) (all : List (Spec V)) (e : TransactionError) → unknown_effect known all ≡ None →
      changes_refusal len max start all ≡ Some e → specs_refusal len max known start all ≡ Some e
  refused-changes known start all e u h = or_none _ _ u ∙ or_some _ _ e h

  pub refused-selections : (known : EffectKinds) (start : Option Changes) (all : List (Spec V)) (o : Option TransactionError) → unknown_effect known all ≡ None →
      changes_refusal len max start all ≡ None → selections_refusal len start all ≡ o → specs_refusal len max known start all ≡ o
  refused-selections known start all o u h k = or_none _ _ u ∙ (or_none _ _ h ∙ k)

  or_end : (o : Option TransactionError) → option_or o None ≡ o
  or_end None = refl
  or_end (Some e) = refl

  -- at the end nothing is left
  pub progress-end : (known : EffectKinds) (all : List (Spec V)) (before : Option (Draft V)) (o : Option TransactionError) → unknown_effect known all ≡ None →
      Progress len max kinds map_value all before o [] → specs_refusal len max known None all ≡ o
  progress-end known all before o u p = refused-selections known None all o u (sym p.changes) (sym p.selections ∙ or_end o)

  pub progress-value : (all : List (Spec V)) (before : Option (Draft V)) → Progress len max kinds map_value all before None [] →
      unwrap_or before (empty_draft len) ≡ merged kinds map_value len all
  progress-value all before p = ap (λ o. unwrap_or o (empty_draft len)) (p.value refl)

  pub progress-start : (all : List (Spec V)) → Progress len max kinds map_value all None None all
  progress-start all = record { before_is = tt; changes = refl; selections = refl; value = λ h. refl }

  -- one more spec alone
  pub unknown-alone : (known : EffectKinds) (s : Spec V) → unknown_in known s.effects ≡ None → unknown_effect known (s ∷ []) ≡ None
  unknown-alone known s h = or_none _ _ h
