-- Two sets of changes of one document.
use Rattle.std.proofs.Common.{◌≡◌, ℕ, ◌≤◌, ◌<◌, ◌^◌, Bool, true, false, cond, ltb, List, Some, None, refl, sym, ap, ◌∙◌, arith}
use Rattle.std.proofs.lemmas.Bool.Decides.{nat_tests}
use Rattle.change_desc.specs.declared.section.Section.{Section}
use Rattle.change_desc.specs.Sections.{spelled, counted, lengths, new_size, old_size}
use Rattle.change_desc.specs.Columns.{along_old}
use Rattle.change_desc.specs.Compose.{compose}
use Rattle.change_desc.specs.Map.{map_over}
use Rattle.change_desc.specs.Of.{then_also}
use Rattle.change_desc.proofs.Swapped.{merged_len-swap}
use Rattle.change_desc.proofs.Measures.{new_size-map_over}
use Rattle.change_desc.proofs.Merges.{old_size-lengths, new_size-lengths, old_size-map_over}
use Rattle.change_set.proofs.RunningTotals.{also-size, also-old, also-meets, also-moved, also-is}
use Rattle.transaction.specs.declared.error.TransactionError.TheVariants.{TooLong}
use Rattle.transaction.specs.declared.meeting.Meeting.{Meeting}
use Rattle.transaction.specs.Merging.{Changes}
use Rattle.transaction.specs.Refusals.{too_long}
use Rattle.transaction.specs.PrivateMeetings.{IsMeeting, IsMet, back_of}
use Rattle.transaction.proofs.Within.{is-short}

pub is_long : (max n : ℕ) (total : Changes) → n ≡ new_size spelled total → max < n → too_long max total ≡ Some (TooLong n max)
is_long max n total e l = rw (← e) (cases (ltb max n) (grind (arith, nat_tests)))
  where
    cases : (b : Bool) → b ≡ true → cond b (Some (TooLong n max)) None ≡ Some (TooLong n max)
    cases true h = refl
    cases false h = cc

pub not_long : (max n : ℕ) (total : Changes) → n ≡ new_size spelled total → n ≤ max → too_long max total ≡ None
not_long max n total e l = rw (← e) (cases (ltb max n) (grind (arith, nat_tests)))
  where
    cases : (b : Bool) → b ≡ false → cond b (Some (TooLong n max)) None ≡ None
    cases false h = refl
    cases true h = cc

pub fits_by : (x y n max : ℕ) → x ≡ y → n ≡ y → n ≤ max → max < 2 ^ 32 → x < 2 ^ 32
fits_by x y n max e f l k = omega (arith, e, f, l, k)

module _ (a b : Changes) (d f : List (Section ℕ)) (e : d ≡ lengths spelled a) (g : f ≡ lengths spelled b) (h : old_size b ≡ old_size a) where
  pub described : old_size d ≡ old_size f
  described = ap old_size e ∙ (old_size-lengths spelled a ∙ (sym h ∙ (sym (old_size-lengths spelled b) ∙ ap old_size (sym g))))

  pub meets : old_size d ≡ old_size b
  meets = ap old_size e ∙ (old_size-lengths spelled a ∙ sym h)

  pub merged-size : (n : ℕ) → ((before : Bool) → n ≡ new_size counted (map_over counted f d before)) → n ≡ new_size spelled (then_also spelled a b)
  merged-size n k = k false ∙ also-size a b d f e g h

  pub back-size : new_size counted (map_over counted d f true) ≡ new_size spelled (then_also spelled a b)
  back-size =
      new_size-map_over d f true ∙
      (merged_len-swap (along_old counted f) (along_old counted d) ∙ (sym (new_size-map_over f d false) ∙ also-size a b d f e g h))

  pub moved-size : new_size spelled (map_over spelled b d false) ≡ new_size spelled (then_also spelled a b)
  moved-size = also-moved a b d e h

  pub is_meeting : (max n : ℕ) (m : Meeting) → n ≤ max → ((before : Bool) → n ≡ new_size counted (map_over counted f d before)) → IsMet a b d m.changes m.moved →
      m.mine ≡ d → m.theirs ≡ f → IsMeeting max a b m
  is_meeting max n m l k t p q =
      let moved : m.moved ≡ map_over spelled b d false = t.moved_are in
      let both : m.changes ≡ then_also spelled a b = t.changes_are ∙ also-is a b d e in
      let back : back_of m ≡ map_over counted d f true = ap (λ z. map_over counted z m.theirs true) p ∙ ap (λ z. map_over counted d z true) q in
      record {
        accepted = not_long max n (then_also spelled a b) (merged-size n k) l;
        changes = both;
        moved = moved ∙ ap (λ z. map_over spelled b z false) e;
        mine = p ∙ e;
        theirs = q ∙ g;
        starts = ap old_size both ∙ also-old a b h;
        moved_old = ap old_size moved ∙ sym (also-meets a b d e h);
        moved_new = ap (new_size spelled) moved ∙ (also-moved a b d e h ∙ ap (new_size spelled) (sym both));
        back_old = ap old_size back ∙ (old_size-map_over counted d f true (sym described) ∙ (ap (new_size counted) g ∙ new_size-lengths spelled b));
        back_new = ap (new_size counted) back ∙ (back-size ∙ ap (new_size spelled) (sym both));
      }

-- what the meeting says of the lengths of the way back
pub back-fits : (max : ℕ) (a b : Changes) (m : Meeting) → max < 2 ^ 32 → IsMeeting max a b m → new_size counted (back_of m) < 2 ^ 32
back-fits max a b m l h =
    let s : new_size spelled (then_also spelled a b) ≤ max = is-short max (then_also spelled a b) h.accepted in
    omega (arith, h.back_new, ap (new_size spelled) h.changes, s, l)

pub meeting-meets : (max : ℕ) (a b : Changes) (m : Meeting) → old_size b ≡ old_size a → IsMeeting max a b m → old_size m.theirs ≡ old_size m.mine
meeting-meets max a b m e h =
    ap old_size h.theirs ∙ (old_size-lengths spelled b ∙ (e ∙ (sym (old_size-lengths spelled a) ∙ ap old_size (sym h.mine))))
