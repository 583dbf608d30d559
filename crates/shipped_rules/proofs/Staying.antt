-- Sets that empty changes leave as they are.
use Rattle.std.proofs.Common.{◌≡◌, ℕ, suc, ◌+◌, ◌≤◌, Bool, true, false, ◌&&◌, ◌||◌, cond, List, [], ◌∷◌, ◌++◌, length, filter_map, Option, Some, None, refl, sym, ap, ◌∙◌, subst, arith}
use Rattle.std.specs.Prelude.{◌==◌, ℤ, pos, filter, int_le, int_lt, nat_lt, option_and_then, option_map}
use Rattle.std.specs.List.{cons_option}
use Rattle.std.proofs.lemmas.Bool.Decides.{nat_tests}
use Rattle.std.proofs.lemmas.List.{append-nil}
use Rattle.change_desc.specs.declared.section.Section.{Section}
use Rattle.change_desc.specs.declared.section.Section.TheVariants.{Keep, Replace}
use Rattle.change_desc.specs.declared.map_mode.MapMode.{MapMode}
use Rattle.change_desc.specs.declared.map_mode.MapMode.TheVariants.{Simple}
use Rattle.change_desc.specs.Positions.{is_negative}
use Rattle.change_desc.specs.Ranges.{changes_nothing}
use Rattle.change_desc.specs.Sections.{lengths, old_size, spelled}
use Rattle.change_desc.proofs.Merges.{old_size-lengths}
use Rattle.stable_order.specs.StableSort.{stable_sort}
use Rattle.stable_order.proofs.StableSort.{length-stable_sort, stable_sort-risen}
use Rattle.range_set.specs.declared.ranged.Ranged.{Ranged}
use Rattle.range_set.specs.Mapping.{Changes, Ends, ends_unless_turned, moved, place_of, point_ends, span_ends}
use Rattle.range_set.specs.Order.{before, first_fault}
use Rattle.range_set.specs.Ranking.{before-order}
use Rattle.range_set.proofs.Clear.{map_pos-clear}
use Rattle.range_set.proofs.Each.{Within, end_within}
use Rattle.range_set.proofs.RangeOrder.{rises-no_fault}
use Rattle.range_set.proofs.Still.{none_replaced, same_place}
use Rattle.decoration.specs.declared.deco.Deco.{Deco}
use Rattle.decoration.specs.Sides.{deco_rules, end_side, mode_of, start_side}
use Rattle.values.specs.Updating.{DecoRanges, is_within, kept_within, mapped_set}
use Rattle.values.specs.Views.{IsTransaction, TransactionView}
use Rattle.shipped_rules.proofs.InsideSets.{filter-within, kept_whole}

nothing-lengths : (s : List (Section (List ℕ))) → changes_nothing (lengths spelled s) ≡ changes_nothing s
nothing-lengths [] = refl
nothing-lengths (Keep n ∷ s) = nothing-lengths s
nothing-lengths (Replace n t ∷ s) = refl

-- each place goes to itself
place_stays : (d : Changes) (p : ℕ) (side : ℤ) (mode : MapMode) → changes_nothing d ≡ true → p ≤ old_size d → place_of d p side mode ≡ Some p
place_stays d p side mode h l = map_pos-clear d p (is_negative side) mode l (rw (none_replaced 0 0 d h) refl) ∙ ap Some (same_place d p h)

-- a range stays as it is or is dropped
abbrev Stays : Ranged Deco → Option (Ranged Deco) → Type 0
Stays r None = Unit {0}
Stays r (Some q) = q ≡ r

-- the range at two ends, if there are any that don't turn round
abbrev at_ends : Ranged Deco → Ends → Option (Ranged Deco)
at_ends r ends =
    option_map (λ (es : ℕ × ℕ). let q : Ranged Deco = record { from = es.0; to = es.1; value = r.value } in q)
    (option_and_then (λ (es : ℕ × ℕ). ends_unless_turned (start_side r.value) (end_side r.value) es.0 es.1) ends)

-- with its own ends or none
own_ends : (r : Ranged Deco) (b : Bool) → Stays r (at_ends r (cond b None (Some (r.from, r.to))))
own_ends r true = tt
own_ends r false = at (r.from == r.to && int_lt (end_side r.value) (start_side r.value))
  where
    at : (b : Bool) → Stays r (option_map (λ (es : ℕ × ℕ). let q : Ranged Deco = record { from = es.0; to = es.1; value = r.value } in q) (cond b None (Some (r.from, r.to))))
    at true = tt
    at false = refl

pub same_number : (a b : ℕ) → (a == b) ≡ true → a ≡ b
same_number a b h = grind (arith, nat_tests)

point_stays : (r : Ranged Deco) (o o' : Option ℕ) → o ≡ Some r.from → o' ≡ Some r.to
    → Stays r (at_ends r (option_and_then (λ from. option_and_then (λ to. cond (nat_lt to from) None (Some (from, to))) o') o))
point_stays r o o' e f = rw (e, f) (own_ends r (nat_lt r.to r.from))

span_stays : (r : Ranged Deco) (o o' : Option ℕ) → o ≡ Some r.from → o' ≡ Some r.to
    → Stays r (at_ends r (option_and_then (λ p. option_and_then (λ q. cond (nat_lt q p || (p == q && int_lt (pos 0) (start_side r.value) && int_le (end_side r.value) (pos 0))) None (Some (p, q))) o') o))
span_stays r o o' e f = rw (e, f) (own_ends r (nat_lt r.to r.from || (r.from == r.to && int_lt (pos 0) (start_side r.value) && int_le (end_side r.value) (pos 0))))

range_stays : (d : Changes) (r : Ranged Deco) → changes_nothing d ≡ true → (r.from ≤ old_size d) × (r.to ≤ old_size d) → Stays r (moved deco_rules d r)
range_stays d r h w = at (r.from == r.to) refl
  where
    at : (b : Bool) → (r.from == r.to) ≡ b
        → Stays r (at_ends r (cond b (point_ends d r.from (start_side r.value) (end_side r.value) (mode_of r.value)) (span_ends d r.from r.to (start_side r.value) (end_side r.value))))
    at true e =
        point_stays r (place_of d r.from (start_side r.value) (mode_of r.value)) (place_of d r.from (end_side r.value) Simple)
        (place_stays d r.from (start_side r.value) (mode_of r.value) h w.0)
        (place_stays d r.from (end_side r.value) Simple h w.0 ∙ ap Some (same_number r.from r.to e))
    at false e =
        span_stays r (place_of d r.from (start_side r.value) Simple) (place_of d r.to (end_side r.value) Simple)
        (place_stays d r.from (start_side r.value) Simple h w.0)
        (place_stays d r.to (end_side r.value) Simple h w.1)

-- what is left out makes lists shorter
fewer_moved : (f : Ranged Deco → Option (Ranged Deco)) (rs : DecoRanges) → length (filter_map f rs) ≤ length rs
fewer_moved f [] = omega arith
fewer_moved f (r ∷ rs) = at (f r) (fewer_moved f rs)
  where
    at : (o : Option (Ranged Deco)) → length (filter_map f rs) ≤ length rs → length (cons_option o (filter_map f rs)) ≤ suc (length rs)
    at None l = omega (arith, l)
    at (Some q) l = omega (arith, l)

fewer_kept : (p : Ranged Deco → Bool) (rs : DecoRanges) → length (filter p rs) ≤ length rs
fewer_kept p [] = omega arith
fewer_kept p (r ∷ rs) = at (p r) (fewer_kept p rs)
  where
    at : (b : Bool) → length (filter p rs) ≤ length rs → length (cond b (r ∷ filter p rs) (filter p rs)) ≤ suc (length rs)
    at true l = omega (arith, l)
    at false l = omega (arith, l)

-- so where as many stay, all stay
all_moved : (n : ℕ) (f : Ranged Deco → Option (Ranged Deco)) → ((r : Ranged Deco) → (r.from ≤ n) × (r.to ≤ n) → Stays r (f r)) → (rs : DecoRanges) → Within n rs
    → length (filter_map f rs) ≡ length rs → filter_map f rs ≡ rs
all_moved n f each [] w e = refl
all_moved n f each (r ∷ rs) w e = at (f r) (each r w.0) (all_moved n f each rs w.1) e
  where
    at : (o : Option (Ranged Deco)) → Stays r o → (length (filter_map f rs) ≡ length rs → filter_map f rs ≡ rs) → length (cons_option o (filter_map f rs)) ≡ suc (length rs) → cons_option o (filter_map f rs) ≡ r ∷ rs
    at None s k e = let l = fewer_moved f rs in absurd (omega (arith, e, l))
    at (Some q) s k e = ap (λ x. x ∷ filter_map f rs) s ∙ ap (λ xs. r ∷ xs) (k (omega (arith, e)))

all_kept : (p : Ranged Deco → Bool) (rs : DecoRanges) → length (filter p rs) ≡ length rs → filter p rs ≡ rs
all_kept p [] e = refl
all_kept p (r ∷ rs) e = at (p r) (all_kept p rs) e
  where
    at : (b : Bool) → (length (filter p rs) ≡ length rs → filter p rs ≡ rs) → length (cond b (r ∷ filter p rs) (filter p rs)) ≡ suc (length rs) → cond b (r ∷ filter p rs) (filter p rs) ≡ r ∷ rs
    at true k e = ap (λ xs. r ∷ xs) (k (omega (arith, e)))
    at false k e = let l = fewer_kept p rs in absurd (omega (arith, e, l))

-- how many stay
count-moved : (d : Changes) (n : ℕ) (rs : DecoRanges) → length (stable_sort (before deco_rules) (filter_map (moved deco_rules d) (kept_within n rs))) ≤ length (filter (is_within n) rs)
count-moved d n rs =
    let kept = kept_within n rs in
    let e = length-stable_sort (before deco_rules) (filter_map (moved deco_rules d) kept) in
    let l = fewer_moved (moved deco_rules d) kept in
    let f = length-stable_sort (before deco_rules) (filter (is_within n) rs ++ []) in
    let g = ap length (append-nil (filter (is_within n) rs)) in
    omega (arith, e, l, f, g)

mapped_stays : (d : Changes) (rs : DecoRanges) → changes_nothing d ≡ true → first_fault deco_rules rs ≡ None
    → length (stable_sort (before deco_rules) (filter_map (moved deco_rules d) (kept_within (old_size d) rs))) ≡ length rs
    → stable_sort (before deco_rules) (filter_map (moved deco_rules d) (kept_within (old_size d) rs)) ≡ rs
mapped_stays d rs h order e =
    let n = old_size d in
    let l = count-moved d n rs in
    let m = fewer_kept (is_within n) rs in
    let all = all_kept (is_within n) rs (omega (arith, e, l, m)) in
    let inside : Within n rs = subst (Within n) all (filter-within n rs) in
    let whole : kept_within n rs ≡ rs = sym (kept_whole n rs order (end_within n rs inside)) in
    let f = length-stable_sort (before deco_rules) (filter_map (moved deco_rules d) rs) in
    let g : length (stable_sort (before deco_rules) (filter_map (moved deco_rules d) rs)) ≡ length rs =
    subst (λ (ks : DecoRanges). length (stable_sort (before deco_rules) (filter_map (moved deco_rules d) ks)) ≡ length rs) whole e in
    let still = all_moved n (moved deco_rules d) (λ r w. range_stays d r h w) rs inside (sym f ∙ g) in
    ap (λ (ks : DecoRanges). stable_sort (before deco_rules) (filter_map (moved deco_rules d) ks)) whole
    ∙ (ap (stable_sort (before deco_rules)) still ∙ stable_sort-risen (before deco_rules) (before-order deco_rules) rs (rises-no_fault deco_rules rs order))

-- A set that empty changes map to one of as many ranges is that set.
pub set_stays : (t : TransactionView) (rs : DecoRanges) → IsTransaction t → changes_nothing t.changes ≡ true → first_fault deco_rules rs ≡ None
    → length (mapped_set t rs) ≡ length rs → mapped_set t rs ≡ rs
set_stays t rs is h order e =
    let n : old_size (lengths spelled t.changes) ≡ length t.start = old_size-lengths spelled t.changes ∙ is.starts in
    ap (λ m. stable_sort (before deco_rules) (filter_map (moved deco_rules (lengths spelled t.changes)) (kept_within m rs))) (sym n)
    ∙ mapped_stays (lengths spelled t.changes) rs (nothing-lengths t.changes ∙ h) order
    (subst (λ m. length (stable_sort (before deco_rules) (filter_map (moved deco_rules (lengths spelled t.changes)) (kept_within m rs))) ≡ length rs) (sym n) e)
