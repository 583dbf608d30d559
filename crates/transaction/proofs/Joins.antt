-- A draft and what is merged with it, in parts.
use Rattle.std.proofs.Common.{◌≡◌, ℕ, ◌≤◌, ◌<◌, ◌^◌, List, refl, sym, ap, subst, ◌∙◌}
use Rattle.change_desc.specs.declared.section.Section.{Section}
use Rattle.change_desc.specs.Sections.{spelled, counted, lengths, new_size, old_size}
use Rattle.change_desc.specs.Compose.{compose}
use Rattle.change_desc.specs.Of.{then_also}
use Rattle.change_desc.proofs.Merges.{old_size-lengths, new_size-lengths}
use Rattle.transaction.specs.declared.draft.Draft.{Draft}
use Rattle.transaction.specs.declared.effect_kinds.EffectKinds.{EffectKinds}
use Rattle.transaction.specs.declared.extras.Extras.{Extras}
use Rattle.transaction.specs.declared.meeting.Meeting.{Meeting}
use Rattle.transaction.specs.Effects.{ValueMap}
use Rattle.transaction.specs.Frames.{AreWithin}
use Rattle.transaction.specs.Merging.{Changes, IsDraft, SelectionIn, beside, followed}
use Rattle.transaction.specs.PrivateExtras.{both_extras, draft_of, extras_of, moved_extras}
use Rattle.transaction.specs.PrivateMeetings.{IsMeeting, back_of}
use Rattle.transaction.proofs.Within.{is-short, within}

module _ {V : Type 0} (kinds : EffectKinds) (map_value : ValueMap V) where
  pub followed-is : (a b d : Draft V) (changes : Changes) (first second extras : Extras V) (over : List (Section ℕ)) → first ≡ extras_of a → second ≡ extras_of b →
      over ≡ lengths spelled b.changes → changes ≡ compose spelled a.changes b.changes → extras ≡ both_extras (moved_extras kinds map_value over first) second →
      d ≡ draft_of changes extras → d ≡ followed kinds map_value a b
  followed-is a b d changes first second extras over p q o e t r = rw (r, t, p, q, o, e) refl

  pub beside-is : (max : ℕ) (a b d : Draft V) (m : Meeting) (first second extras : Extras V) → first ≡ extras_of a → second ≡ extras_of b → IsMeeting max a.changes b.changes m →
      extras ≡ both_extras (moved_extras kinds map_value (lengths spelled m.moved) first) (moved_extras kinds map_value (back_of m) second) →
      d ≡ draft_of m.changes extras → d ≡ beside kinds map_value a b
  beside-is max a b d m first second extras p q w t r = rw (r, t, p, q, w.changes, w.moved, w.mine, w.theirs) refl

module _ {V : Type 0} where
  pub is-draft : (len n : ℕ) (changes : Changes) (extras : Extras V) (d : Draft V) → d ≡ draft_of changes extras → old_size changes ≡ len → n ≡ new_size spelled changes →
      SelectionIn n extras.selection → IsDraft len d
  is-draft len n changes extras d r s e h =
      subst (IsDraft len) (sym r) (record { starts = s; inside = subst (λ m. SelectionIn m extras.selection) e h })

  -- the selection of a draft lies where that of what it has beside its changes does
  pub extras-inside : (m n : ℕ) (d : Draft V) (e : Extras V) → e ≡ extras_of d → m ≡ n → SelectionIn m d.selection → SelectionIn n e.selection
  extras-inside m n d e p q h = within m n d.selection e.selection q (sym (ap (λ (x : Extras V). x.selection) p)) h

pub over-within : (max : ℕ) (over : List (Section ℕ)) (changes : Changes) → over ≡ lengths spelled changes → old_size changes ≤ max → new_size spelled changes ≤ max → AreWithin max over
over-within max over changes e s n = record {
  short = subst (λ k. k ≤ max) (sym (ap old_size e ∙ old_size-lengths spelled changes)) s;
  new_short = subst (λ k. k ≤ max) (sym (ap (new_size counted) e ∙ new_size-lengths spelled changes)) n;
}

module _ (max : ℕ) (a b : Changes) (m : Meeting) (w : IsMeeting max a b m) where
  pub meeting-short : new_size spelled m.changes ≤ max
  meeting-short = subst (λ c. new_size spelled c ≤ max) (sym w.changes) (is-short max (then_also spelled a b) w.accepted)

  pub moved-short : new_size spelled m.moved ≤ max
  moved-short = subst (λ k. k ≤ max) (sym w.moved_new) meeting-short

  pub moved-starts : new_size spelled a ≤ max → old_size m.moved ≤ max
  moved-starts h = subst (λ k. k ≤ max) (sym w.moved_old) h

  pub back-within : new_size spelled b ≤ max → AreWithin max (back_of m)
  back-within h = record { short = subst (λ k. k ≤ max) (sym w.back_old) h; new_short = subst (λ k. k ≤ max) (sym w.back_new) meeting-short }

  pub back-same : new_size counted (back_of m) ≡ new_size spelled m.moved
  back-same = w.back_new ∙ sym w.moved_new
