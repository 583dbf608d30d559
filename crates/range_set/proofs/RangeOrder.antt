-- A sorted list of ranges that end where they start or later has no fault.
use Rattle.std.proofs.Common.{◌≡◌, ℕ, zero, suc, ◌+◌, ◌<◌, Bool, true, false, ◌&&◌, ◌||◌, cond, ℤ, List, [], ◌∷◌, ◌++◌, length, get_or, take, Option, Some, None, refl, sym, ◌∙◌, ap, arith}
use Rattle.std.proofs.lemmas.List.{take_more}
use Rattle.std.proofs.lemmas.List.Elements.{filter-append}
use Rattle.std.specs.List.{filter, cons_option}
use Rattle.std.specs.Prelude.{nat_lt, ◌==◌, int_lt, int_le, pos, filter_map, option_map, option_and_then}
use Rattle.stable_order.specs.StableSort.{insert_by, stable_sort}
use Rattle.stable_order.proofs.StableSort.{NoneBelow, NoneBelow-chain, Rises, Rises-stable_sort}
use Rattle.change_desc.specs.declared.map_mode.MapMode.{MapMode}
use Rattle.change_desc.specs.declared.map_mode.MapMode.TheVariants.{Simple}
use Rattle.range_set.specs.Rules.{RangeRules}
use Rattle.range_set.specs.Order.{before, precedes, fault_from, first_fault, AllForward}
use Rattle.range_set.specs.Ranking.{before-order}
use Rattle.range_set.specs.Mapping.{Changes, Ends, place_of, point_ends, span_ends, ends_unless_turned, new_ends, moved, map_ranges}
use Rattle.range_set.specs.declared.ranged.Ranged.{Ranged}
use Rattle.range_set.specs.declared.range_error.RangeError.TheVariants as fault

-- ends that do not turn round, if there are any
abbrev AreForward : Ends → Type 0
AreForward None = Unit {0}
AreForward (Some e) = nat_lt e.1 e.0 ≡ false

forward_unless : (b : Bool) (p q : ℕ) → (b ≡ false → nat_lt q p ≡ false) → AreForward (cond b None (Some (p, q)))
forward_unless true p q h = tt
forward_unless false p q h = h refl

or_first : (a b : Bool) → (a || b) ≡ false → a ≡ false
or_first false b e = refl
or_first true b e = e

forward-point : (d : Changes) (place : ℕ) (s e : ℤ) (m : MapMode) → AreForward (point_ends d place s e m)
forward-point d place s e m = at (place_of d place s m) (place_of d place e Simple)
  where
    at : (o o' : Option ℕ) → AreForward (option_and_then (λ from. option_and_then (λ to. cond (nat_lt to from) None (Some (from, to))) o') o)
    at None o' = tt
    at (Some from) None = tt
    at (Some from) (Some to) = forward_unless (nat_lt to from) from to (λ h. h)

forward-span : (d : Changes) (from to : ℕ) (s e : ℤ) → AreForward (span_ends d from to s e)
forward-span d from to s e = at (place_of d from s Simple) (place_of d to e Simple)
  where
    at : (o o' : Option ℕ) → AreForward (option_and_then (λ p. option_and_then (λ q. cond (nat_lt q p || (p == q && int_lt (pos 0) s && int_le e (pos 0))) None (Some (p, q))) o') o)
    at None o' = tt
    at (Some p) None = tt
    at (Some p) (Some q) = forward_unless (nat_lt q p || (p == q && int_lt (pos 0) s && int_le e (pos 0))) p q (λ h. or_first (nat_lt q p) _ h)

forward-turned : (s e : ℤ) (o : Ends) → AreForward o → AreForward (option_and_then (λ ends. ends_unless_turned s e ends.0 ends.1) o)
forward-turned s e None h = tt
forward-turned s e (Some p) h = forward_unless (p.0 == p.1 && int_lt e s) p.0 p.1 (λ k. h)

module _ {T : Type 0} (rules : RangeRules T) where
  abbrev FollowsAll : Option (Ranged T) → List (Ranged T) → Type 0
  FollowsAll None rs = Unit {0}
  FollowsAll (Some q) rs = NoneBelow (before rules) q rs

  follows_next : (last : Option (Ranged T)) (r : Ranged T) (rs : List (Ranged T)) → FollowsAll last (r ∷ rs) → precedes rules r last ≡ false
  follows_next None r rs h = refl
  follows_next (Some q) r rs h = h.0

  pub no_fault_from : (i : ℕ) (last : Option (Ranged T)) (rs : List (Ranged T)) → Rises (before rules) rs → FollowsAll last rs → AllForward rs → fault_from rules i last rs ≡ None
  no_fault_from i last [] h k f = refl
  no_fault_from i last (r ∷ rs) h k f =
      rw (f.0, follows_next last r rs k) (no_fault_from (i + 1) (Some r) rs h.1 h.0 f.1)

  forward_insert : (r : Ranged T) (rs : List (Ranged T)) → nat_lt r.to r.from ≡ false → AllForward rs → AllForward (insert_by (before rules) r rs)
  forward_insert r [] e h = (e, tt)
  forward_insert r (q ∷ qs) e h =
      elim (before rules q r) as (λ b. AllForward (cond b (q ∷ insert_by (before rules) r qs) (r ∷ q ∷ qs)))
      [ true ↦ (h.0, forward_insert r qs e h.1) | false ↦ (e, h) ]

  pub forward_sort : (rs : List (Ranged T)) → AllForward rs → AllForward (stable_sort (before rules) rs)
  forward_sort [] h = tt
  forward_sort (r ∷ rs) h = forward_insert r (stable_sort (before rules) rs) h.0 (forward_sort rs h.1)

  abbrev IsForward : Option (Ranged T) → Type 0
  IsForward None = Unit {0}
  IsForward (Some r) = nat_lt r.to r.from ≡ false

  forward_ends : (d : Changes) (r : Ranged T) → AreForward (new_ends rules d r)
  forward_ends d r = forward-turned (rules.start_side r.value) (rules.end_side r.value) _ (at (r.from == r.to))
    where
      at : (b : Bool) → AreForward (cond b (point_ends d r.from (rules.start_side r.value) (rules.end_side r.value) (rules.mode r.value)) (span_ends d r.from r.to (rules.start_side r.value) (rules.end_side r.value)))
      at true = forward-point d r.from (rules.start_side r.value) (rules.end_side r.value) (rules.mode r.value)
      at false = forward-span d r.from r.to (rules.start_side r.value) (rules.end_side r.value)

  pub forward_moved : (d : Changes) (r : Ranged T) → IsForward (moved rules d r)
  forward_moved d r = at (new_ends rules d r) (forward_ends d r)
    where
      at : (o : Ends) → AreForward o → IsForward (option_map (λ (ends : ℕ × ℕ). record { from = ends.0; to = ends.1; value = r.value }) o)
      at None h = tt
      at (Some e) h = h

  pub forward_filtered : (h : Ranged T → Option (Ranged T)) → ((r : Ranged T) → IsForward (h r)) → (rs : List (Ranged T)) → AllForward (filter_map h rs)
  forward_filtered h f [] = tt
  forward_filtered h f (r ∷ rs) =
      let rest = forward_filtered h f rs in joined (h r) (filter_map h rs) (f r) rest
    where
      joined : (o : Option (Ranged T)) (rs : List (Ranged T)) → IsForward o → AllForward rs → AllForward (cons_option o rs)
      joined None rs a b = b
      joined (Some r) rs a b = (a, b)

  pub no_fault_in_map : (d : Changes) (rs : List (Ranged T)) → first_fault rules (map_ranges rules d rs) ≡ None
  no_fault_in_map d rs =
      let kept = filter_map (moved rules d) rs in
      no_fault_from 0 None (stable_sort (before rules) kept) (Rises-stable_sort (before rules) (before-order rules) kept) tt
      (forward_sort kept (forward_filtered (moved rules d) (forward_moved d) rs))

  -- what holds of a list with no fault
  pub forward-no_fault : (i : ℕ) (last : Option (Ranged T)) (rs : List (Ranged T)) → fault_from rules i last rs ≡ None → AllForward rs
  forward-no_fault i last [] h = tt
  forward-no_fault i last (r ∷ rs) h = first (nat_lt r.to r.from) (precedes rules r last) (λ k. forward-no_fault (i + 1) (Some r) rs k) h
    where
      first : (a b : Bool) → (fault_from rules (i + 1) (Some r) rs ≡ None → AllForward rs)
          → cond a (Some (fault.Reversed i)) (cond b (Some (fault.NotSorted i)) (fault_from rules (i + 1) (Some r) rs)) ≡ None → (a ≡ false) × AllForward rs
      first true b k e = cc
      first false true k e = cc
      first false false k e = (refl, k e)

  -- and so such a list is in order
  rises_from : (i : ℕ) (last : Option (Ranged T)) (rs : List (Ranged T)) → fault_from rules i last rs ≡ None → Rises (before rules) rs × FollowsAll last rs
  rises_from i None [] h = (tt, tt)
  rises_from i (Some q) [] h = (tt, tt)
  rises_from i last (r ∷ rs) h = first (nat_lt r.to r.from) (precedes rules r last) refl (λ k. rises_from (i + 1) (Some r) rs k) h
    where
      follows : (l : Option (Ranged T)) → precedes rules r l ≡ false → NoneBelow (before rules) r rs → FollowsAll l (r ∷ rs)
      follows None e k = tt
      follows (Some q) e k = (e, NoneBelow-chain (before rules) (before-order rules) q r rs e k)

      first : (a b : Bool) → precedes rules r last ≡ b → (fault_from rules (i + 1) (Some r) rs ≡ None → Rises (before rules) rs × NoneBelow (before rules) r rs)
          → cond a (Some (fault.Reversed i)) (cond b (Some (fault.NotSorted i)) (fault_from rules (i + 1) (Some r) rs)) ≡ None → Rises (before rules) (r ∷ rs) × FollowsAll last (r ∷ rs)
      first true b e k x = cc
      first false true e k x = cc
      first false false e k x = let y = k x in ((y.1, y.0), follows last e y.1)

  pub rises-no_fault : (rs : List (Ranged T)) → first_fault rules rs ≡ None → Rises (before rules) rs
  rises-no_fault rs h = (rises_from 0 None rs h).0

  pub no_fault_in_sort : (rs : List (Ranged T)) → AllForward rs → first_fault rules (stable_sort (before rules) rs) ≡ None
  no_fault_in_sort rs h = no_fault_from 0 None (stable_sort (before rules) rs) (Rises-stable_sort (before rules) (before-order rules) rs) tt (forward_sort rs h)

pub forward-append : {T : Type 0} (xs ys : List (Ranged T)) → AllForward xs → AllForward ys → AllForward (xs ++ ys)
forward-append [] ys h k = k
forward-append (x ∷ xs) ys h k = (h.0, forward-append xs ys h.1 k)

pub forward_left : {T : Type 0} (xs ys : List (Ranged T)) → AllForward (xs ++ ys) → AllForward xs
forward_left [] ys h = tt
forward_left (x ∷ xs) ys h = (h.0, forward_left xs ys h.1)

pub forward_right : {T : Type 0} (xs ys : List (Ranged T)) → AllForward (xs ++ ys) → AllForward ys
forward_right [] ys h = h
forward_right (x ∷ xs) ys h = forward_right xs ys h.1

pub forward_at : {T : Type 0} (rs : List (Ranged T)) (i : ℕ) (r : Ranged T) → i < length rs → r ≡ get_or rs i r → AllForward rs → nat_lt r.to r.from ≡ false
forward_at [] i r l e h = absurd (omega arith)
forward_at {T} (q ∷ rs) zero r l e h = ap (λ (x : Ranged T). nat_lt x.to x.from) e ∙ h.0
forward_at (q ∷ rs) (suc i) r l e h = forward_at rs i r (omega arith) e h.1

pub filter_more : {X : Type 0} (p : X → Bool) (xs : List X) (i : ℕ) (x : X) → i < length xs → x ≡ get_or xs i x → filter p (take (i + 1) xs) ≡ filter p (take i xs) ++ cond (p x) (x ∷ []) []
filter_more p xs i x l e =
    ap (filter p) (take_more xs i x l ∙ ap (λ y. take i xs ++ y ∷ []) (sym e)) ∙ filter-append p (take i xs) (x ∷ [])
