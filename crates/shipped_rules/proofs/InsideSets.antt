-- Sets that lie in a document.
use Rattle.std.proofs.Common.{◌≡◌, ℕ, suc, ◌≤◌, Bool, true, false, ◌&&◌, cond, List, [], ◌∷◌, ◌++◌, None, refl, sym, ap, ◌∙◌, subst, arith}
use Rattle.std.specs.Prelude.{filter, nat_le}
use Rattle.std.proofs.lemmas.Bool.Decides.{nat_tests}
use Rattle.std.proofs.lemmas.List.{append-nil}
use Rattle.stable_order.specs.StableSort.{insert_by, stable_sort}
use Rattle.range_set.specs.declared.ranged.Ranged.{Ranged}
use Rattle.range_set.specs.Mapping.{EndWithin}
use Rattle.range_set.specs.Order.{before, first_fault}
use Rattle.stable_order.proofs.StableSort.{stable_sort-risen}
use Rattle.range_set.specs.Ranking.{before-order}
use Rattle.range_set.proofs.RangeOrder.{rises-no_fault}
use Rattle.range_set.proofs.Each.{Within, end_within}
use Rattle.decoration.specs.declared.deco.Deco.{Deco}
use Rattle.decoration.specs.Sides.{deco_rules}
use Rattle.values.specs.declared.shown_effect.ShownEffect.{ShownEffect}
use Rattle.values.specs.Updating.{DecoRanges, is_within, kept_within, line_of, with_ranges}
use Rattle.shipped_rules.specs.InRange.{both}

insert-within : (n : ℕ) (r : Ranged Deco) (rs : DecoRanges) → (r.from ≤ n) × (r.to ≤ n) → Within n rs → Within n (insert_by (before deco_rules) r rs)
insert-within n r [] h k = (h, tt)
insert-within n r (q ∷ rs) h k =
    elim (before deco_rules q r) as (λ b. Within n (cond b (q ∷ insert_by (before deco_rules) r rs) (r ∷ q ∷ rs)))
    [ true ↦ (k.0, insert-within n r rs h k.1) | false ↦ (h, k) ]

sort-within : (n : ℕ) (rs : DecoRanges) → Within n rs → Within n (stable_sort (before deco_rules) rs)
sort-within n [] h = tt
sort-within n (r ∷ rs) h = insert-within n r (stable_sort (before deco_rules) rs) h.0 (sort-within n rs h.1)

within-ends : (n : ℕ) (r : Ranged Deco) → is_within n r ≡ true → (r.from ≤ n) × (r.to ≤ n)
within-ends n r e =
    let k = both (nat_le r.from n) (nat_le r.to n) e in let c : nat_le r.from n ≡ true = k.0 in let d : nat_le r.to n ≡ true = k.1 in
    (grind (arith, nat_tests), grind (arith, nat_tests))

pub filter-within : (n : ℕ) (rs : DecoRanges) → Within n (filter (is_within n) rs)
filter-within n [] = tt
filter-within n (r ∷ rs) = at (is_within n r) refl (filter-within n rs)
  where
    at : (b : Bool) → is_within n r ≡ b → Within n (filter (is_within n) rs) → Within n (cond b (r ∷ filter (is_within n) rs) (filter (is_within n) rs))
    at true e w = (within-ends n r e, w)
    at false e w = w

pub kept-inside : (n : ℕ) (rs : DecoRanges) → EndWithin n (kept_within n rs)
kept-inside n rs =
    end_within n (kept_within n rs)
    (sort-within n (filter (is_within n) rs ++ []) (subst (Within n) (sym (append-nil (filter (is_within n) rs))) (filter-within n rs)))

-- without a document effects make no line decorations
pub none-made : (rs : DecoRanges) (es : List ShownEffect) → with_ranges (line_of None) rs es ≡ rs
none-made rs [] = refl
none-made rs (e ∷ es) = none-made rs es

-- a set that lies in a document keeps all its ranges
within_holds : (n a b : ℕ) → a ≤ n → b ≤ n → (nat_le a n && nat_le b n) ≡ true
within_holds n a b h k = grind (arith, nat_tests)

all_kept : (n : ℕ) (rs : DecoRanges) → EndWithin n rs → filter (is_within n) rs ≡ rs
all_kept n [] h = refl
all_kept n (r ∷ rs) h =
    let here = h 0 r (omega arith) in
    rw (within_holds n r.from r.to here.0 here.1) (ap (λ q. r ∷ q) (all_kept n rs (λ k d l. h (suc k) d (omega arith))))

pub kept_whole : (n : ℕ) (rs : DecoRanges) → first_fault deco_rules rs ≡ None → EndWithin n rs → rs ≡ kept_within n rs
kept_whole n rs order h =
    sym (ap (stable_sort (before deco_rules)) (append-nil (filter (is_within n) rs) ∙ all_kept n rs h)
    ∙ stable_sort-risen (before deco_rules) (before-order deco_rules) rs (rises-no_fault deco_rules rs order))
