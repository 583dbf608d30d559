-- Changes and then those of one more spec.
use Rattle.std.proofs.Common.{◌≡◌, ℕ, ◌≤◌, ◌<◌, ◌^◌, Bool, true, false, List, Option, Some, None, Result, Ok, Err, IfOk, refl, sym, ap, subst, ◌∙◌, arith}
use Rattle.change_desc.specs.declared.section.Section.{Section}
use Rattle.change_desc.specs.Sections.{spelled, counted, lengths, old_size, new_size}
use Rattle.change_desc.specs.Compose.{compose}
use Rattle.change_desc.specs.Map.{map_over}
use Rattle.change_desc.specs.Of.{then_also}
use Rattle.change_desc.proofs.Lengths.{spelled_sizes, map_over-lengths}
use Rattle.change_desc.proofs.Merges.{old_size-lengths, new_size-lengths}
use Rattle.change_set.proofs.RunningTotals.{also-old}
use Rattle.transaction.specs.declared.error.TransactionError.{TransactionError}
use Rattle.transaction.specs.Merging.{Changes, next_total, start_len}
use Rattle.transaction.specs.Refusals.{too_long}
use Rattle.transaction.proofs.Meetings.{not_long}
use Rattle.transaction.proofs.Within.{is-short}
use Rattle.filters.specs.PrivateSteps.{AreShort}

-- what two clauses say together
pub IfOk-both : {T E : Type 0} (r : Result T E) (P Q R : T → Type 0) → IfOk r P → IfOk r Q → ((x : T) → P x → Q x → R x) → IfOk r R
IfOk-both (Ok x) P Q R p q f = f x p q
IfOk-both (Err e) P Q R p q f = p

-- the length that is told of described sets is that of their texts
pub told-len : (second : Changes) (theirs mine : List (Section ℕ)) (n : ℕ) → theirs ≡ lengths spelled second →
    ((before : Bool) → n ≡ new_size counted (map_over counted theirs mine before)) → n ≡ new_size spelled (map_over spelled second mine false)
told-len second theirs mine n e h =
    h false ∙
    (ap (λ t. new_size counted (map_over counted t mine false)) e ∙
    (ap (new_size counted) (sym (map_over-lengths spelled spelled_sizes second mine false)) ∙ new_size-lengths spelled (map_over spelled second mine false)))

pub described-old : (second : Changes) (theirs mine : List (Section ℕ)) → theirs ≡ lengths spelled second → old_size mine ≡ old_size second → old_size mine ≡ old_size theirs
described-old second theirs mine e h = h ∙ (sym (old_size-lengths spelled second) ∙ ap old_size (sym e))

pub mine-old : (first second : Changes) (mine : List (Section ℕ)) → mine ≡ lengths spelled first → old_size second ≡ old_size first → old_size mine ≡ old_size second
mine-old first second mine e h = ap old_size e ∙ (old_size-lengths spelled first ∙ sym h)

module _ (len max : ℕ) (before own both : Changes) (starts : old_size before ≡ len) (b : Bool) where
  pub seq-meets : b ≡ true → old_size own ≡ start_len len (Some before) b → new_size spelled before ≡ old_size own
  seq-meets t e = sym (e ∙ ap (start_len len (Some before)) t)

  pub beside-meets : b ≡ false → old_size own ≡ start_len len (Some before) b → old_size own ≡ old_size before
  beside-meets f e = e ∙ (ap (start_len len (Some before)) f ∙ sym starts)

  pub seq-total : b ≡ true → both ≡ compose spelled before own → both ≡ next_total (Some before) b own
  seq-total t e = e ∙ ap (λ x. next_total (Some before) x own) (sym t)

  pub beside-total : b ≡ false → both ≡ then_also spelled before own → both ≡ next_total (Some before) b own
  beside-total f e = e ∙ ap (λ x. next_total (Some before) x own) (sym f)

  pub seq-short : old_size both ≡ old_size before → new_size spelled both ≡ new_size spelled own → new_size spelled own ≤ max → AreShort len max both
  seq-short o n l = record { starts = o ∙ starts; short = omega (arith, n, l) }

  pub seq-accepted : b ≡ true → both ≡ compose spelled before own → new_size spelled both ≡ new_size spelled own → new_size spelled own ≤ max →
      too_long max (next_total (Some before) b own) ≡ None
  seq-accepted t e n l = not_long max (new_size spelled both) (next_total (Some before) b own) (ap (new_size spelled) (seq-total t e)) (omega (arith, n, l))

  pub beside-short : old_size own ≡ old_size before → both ≡ then_also spelled before own → too_long max (then_also spelled before own) ≡ None → AreShort len max both
  beside-short m e h = record {
    starts = ap old_size e ∙ (also-old before own m ∙ starts);
    short = subst (λ c. new_size spelled c ≤ max) (sym e) (is-short max (then_also spelled before own) h);
  }

  pub beside-refusal : (o : Option TransactionError) → b ≡ false → too_long max (then_also spelled before own) ≡ o → too_long max (next_total (Some before) b own) ≡ o
  beside-refusal o f h = ap (λ x. too_long max (next_total (Some before) x own)) f ∙ h
