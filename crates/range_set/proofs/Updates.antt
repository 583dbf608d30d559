-- An update under way: what is done is sorted, and what is still to come doesn't belong before it.
use Rattle.std.proofs.Common.{◌≡◌, ℕ, zero, suc, ◌+◌, ◌≤◌, drop, Bool, true, false, ◌||◌, not, ◌&&◌, cond, List, [], ◌∷◌, ◌++◌, length, filter, None, refl, sym, ap, subst, ◌∙◌, append_assoc, ◌⊎◌, inl, inr, arith}
use Rattle.std.proofs.lemmas.List.{append-nil, length-append}
use Rattle.std.proofs.lemmas.List.Elements.{filter-append}
use Rattle.std.specs.List.{list_any}
use Rattle.std.specs.List.Sorted.{ties}
use Rattle.std.specs.Prelude.{nat_lt}
use Rattle.stable_order.specs.StableSort.{stable_sort}
use Rattle.stable_order.proofs.StableSort.{NoneBelow, NoneBelow-chain, NoneBelowAny, Rises, Rises-append, Rises-stable_sort, filter-stable_sort, length-stable_sort, list_any-stable_sort, same_from_ties, stable_sort-append, stable_sort-risen}
use Rattle.range_set.specs.Rules.{RangeRules}
use Rattle.range_set.specs.Order.{AllForward, before, first_fault}
use Rattle.range_set.specs.Ranking.{before-order}
use Rattle.range_set.specs.PrivateChunks.{Ascend}
use Rattle.range_set.specs.PrivateUpdates.{IsBeyond, KeepsPart, StandBefore, TakesBefore}
use Rattle.range_set.specs.declared.ranged.Ranged.{Ranged}
use Rattle.range_set.proofs.RangeOrder.{forward-append, forward_left, forward_right, forward_sort, no_fault_from}
use Rattle.range_set.proofs.Under.{any_both, any_left, none_right, rises_across, rises_ascend, rises_left, rises_right, through}

or_left : (a b : Bool) → (a || b) ≡ false → a ≡ false
or_left false b h = refl
or_left true b h = h

or_right : (a b : Bool) → (a || b) ≡ false → b ≡ false
or_right false b h = h
or_right true b h = cc

or_both : (a b : Bool) → a ≡ false → b ≡ false → (a || b) ≡ false
or_both false b h k = k
or_both true b h k = cc

both_false : (a b : Bool) → (not a && not b) ≡ true → (a ≡ false) × (b ≡ false)
both_false false false e = (refl, refl)
both_false false true e = cc
both_false true false e = cc
both_false true true e = cc

none-turned : {T : Type 0} (xs : List (Ranged T)) → AllForward xs → list_any (λ (r : Ranged T). nat_lt r.to r.from) xs ≡ false
none-turned [] h = refl
none-turned (x ∷ xs) h = or_both (nat_lt x.to x.from) _ h.0 (none-turned xs h.1)

turned-none : {T : Type 0} (xs : List (Ranged T)) → list_any (λ (r : Ranged T). nat_lt r.to r.from) xs ≡ false → AllForward xs
turned-none [] h = tt
turned-none (x ∷ xs) h = (or_left (nat_lt x.to x.from) _ h, turned-none xs (or_right (nat_lt x.to x.from) _ h))

module _ {T : Type 0} (rules : RangeRules T) where
  -- no range of the second list belongs before one of the first
  abbrev pub Below : List (Ranged T) → List (Ranged T) → Type 0
  Below xs ys = NoneBelowAny (before rules) (before-order rules) xs ys

  -- the same as tests
  none-any : (z : Ranged T) (xs : List (Ranged T)) → NoneBelow (before rules) z xs → list_any (λ x. before rules x z) xs ≡ false
  none-any z [] h = refl
  none-any z (x ∷ xs) h = or_both (before rules x z) _ h.0 (none-any z xs h.1)

  any-none : (z : Ranged T) (xs : List (Ranged T)) → list_any (λ x. before rules x z) xs ≡ false → NoneBelow (before rules) z xs
  any-none z [] h = tt
  any-none z (x ∷ xs) h = (or_left (before rules x z) _ h, any-none z xs (or_right (before rules x z) _ h))

  below-any : (xs ys : List (Ranged T)) → Below xs ys → list_any (λ x. list_any (λ y. before rules y x) ys) xs ≡ false
  below-any [] ys h = refl
  below-any (x ∷ xs) ys h = or_both (list_any (λ y. before rules y x) ys) _ (none-any x ys h.0) (below-any xs ys h.1)

  any-below : (xs ys : List (Ranged T)) → list_any (λ x. list_any (λ y. before rules y x) ys) xs ≡ false → Below xs ys
  any-below [] ys h = tt
  any-below (x ∷ xs) ys h =
      (any-none x ys (or_left (list_any (λ y. before rules y x) ys) _ h), any-below xs ys (or_right (list_any (λ y. before rules y x) ys) _ h))

  -- parts of lists
  below_nil : (xs : List (Ranged T)) → Below xs []
  below_nil [] = tt
  below_nil (x ∷ xs) = (tt, below_nil xs)

  below_right : (zs xs ys : List (Ranged T)) → Below zs (xs ++ ys) → Below zs ys
  below_right [] xs ys h = tt
  below_right (z ∷ zs) xs ys h = (none_right rules z xs ys h.0, below_right zs xs ys h.1)

  pub below_append : (xs ys zs : List (Ranged T)) → Below xs zs → Below ys zs → Below (xs ++ ys) zs
  below_append [] ys zs h k = k
  below_append (x ∷ xs) ys zs h k = (h.0, below_append xs ys zs h.1 k)

  below_sorted : (xs ys : List (Ranged T)) → Below xs ys → Below xs (stable_sort (before rules) ys)
  below_sorted [] ys h = tt
  below_sorted (x ∷ xs) ys h =
      (any-none x _ (list_any-stable_sort (before rules) (λ y. before rules y x) ys ∙ none-any x ys h.0), below_sorted xs ys h.1)

  sorted_below : (xs ys : List (Ranged T)) → Below xs ys → Below (stable_sort (before rules) xs) ys
  sorted_below xs ys h =
      any-below (stable_sort (before rules) xs) ys (list_any-stable_sort (before rules) (λ x. list_any (λ y. before rules y x) ys) xs ∙ below-any xs ys h)

  none_filter : (z : Ranged T) (p : Ranged T → Bool) (ys : List (Ranged T)) → NoneBelow (before rules) z ys → NoneBelow (before rules) z (filter p ys)
  none_filter z p [] h = tt
  none_filter z p (y ∷ ys) h = at (p y) (none_filter z p ys h.1)
    where
      at : (b : Bool) → NoneBelow (before rules) z (filter p ys) → NoneBelow (before rules) z (cond b (y ∷ filter p ys) (filter p ys))
      at true k = (h.0, k)
      at false k = k

  below_filter : (p : Ranged T → Bool) (xs ys : List (Ranged T)) → Below xs ys → Below xs (filter p ys)
  below_filter p [] ys h = tt
  below_filter p (x ∷ xs) ys h = (none_filter x p ys h.0, below_filter p xs ys h.1)

  -- what is kept of a chunk
  part_none : (chunk old new : List (Ranged T)) → KeepsPart chunk old new → (z : Ranged T) → NoneBelow (before rules) z old → NoneBelow (before rules) z chunk → NoneBelow (before rules) z new
  part_none chunk old new k z h l = any-none z new (k.none (λ x. before rules x z) (none-any z old h) (none-any z chunk l))

  part_right : (chunk old new : List (Ranged T)) → KeepsPart chunk old new → (zs : List (Ranged T)) → Below zs old → Below zs chunk → Below zs new
  part_right chunk old new k [] h l = tt
  part_right chunk old new k (z ∷ zs) h l = (part_none chunk old new k z h.0 l.0, part_right chunk old new k zs h.1 l.1)

  part_left : (chunk old new : List (Ranged T)) → KeepsPart chunk old new → (ys : List (Ranged T)) → Below old ys → Below chunk ys → Below new ys
  part_left chunk old new k ys h l = any-below new ys (k.none (λ x. list_any (λ y. before rules y x) ys) (below-any old ys h) (below-any chunk ys l))

  part_forward : (chunk old new : List (Ranged T)) → KeepsPart chunk old new → AllForward old → AllForward chunk → AllForward new
  part_forward chunk old new k h l = turned-none new (k.none (λ (r : Ranged T). nat_lt r.to r.from) (none-turned old h) (none-turned chunk l))

  -- a range that belongs before the first of a list in order belongs before each of it
  abbrev pub BeforeEach : Ranged T → List (Ranged T) → Type 0
  BeforeEach x [] = Unit {0}
  BeforeEach x (y ∷ ys) = (before rules x y ≡ true) × BeforeEach x ys

  abbrev pub EachBefore : List (Ranged T) → List (Ranged T) → Type 0
  EachBefore [] ys = Unit {0}
  EachBefore (x ∷ xs) ys = BeforeEach x ys × EachBefore xs ys

  before_later : (x u : Ranged T) (ys : List (Ranged T)) → before rules x u ≡ true → NoneBelow (before rules) u ys → BeforeEach x ys
  before_later x u [] h k = tt
  before_later x u (y ∷ ys) h k = (at (before rules x y) refl, before_later x u ys h k.1)
    where
      at : (b : Bool) → before rules x y ≡ b → before rules x y ≡ true
      at true e = e
      at false e = let c : before rules x u ≡ false = (before-order rules).chain x y u e k.0 in absurd (wrong (sym h ∙ c))
        where
          wrong : true ≡ false → ⊥
          wrong e = cc

  each_before : (u : Ranged T) (us taken : List (Ranged T)) → StandBefore rules (u ∷ us) taken → (later : List (Ranged T)) → NoneBelow (before rules) u later → EachBefore taken (u ∷ later)
  each_before u us [] h later k = tt
  each_before u us (x ∷ taken) h later k = ((h.0, before_later x u later h.0 k), each_before u us taken h.1 later k)

  -- it isn't after any of them
  not_after : (x : Ranged T) (ys : List (Ranged T)) → BeforeEach x ys → NoneBelow (before rules) x ys
  not_after x [] h = tt
  not_after x (y ∷ ys) h = ((before-order rules).one_way x y h.0, not_after x ys h.1)

  pub none_after : (xs ys : List (Ranged T)) → EachBefore xs ys → Below xs ys
  none_after [] ys h = tt
  none_after (x ∷ xs) ys h = (not_after x ys h.0, none_after xs ys h.1)

  before_filter : (x : Ranged T) (p : Ranged T → Bool) (ys : List (Ranged T)) → BeforeEach x ys → BeforeEach x (filter p ys)
  before_filter x p [] h = tt
  before_filter x p (y ∷ ys) h = at (p y) (before_filter x p ys h.1)
    where
      at : (b : Bool) → BeforeEach x (filter p ys) → BeforeEach x (cond b (y ∷ filter p ys) (filter p ys))
      at true k = (h.0, k)
      at false k = k

  each_filter : (p : Ranged T → Bool) (xs ys : List (Ranged T)) → EachBefore xs ys → EachBefore xs (filter p ys)
  each_filter p [] ys h = tt
  each_filter p (x ∷ xs) ys h = (before_filter x p ys h.0, each_filter p xs ys h.1)

  never_both : (w x y : Ranged T) → before rules x y ≡ true → ties (before rules) w x ≡ true → ties (before rules) w y ≡ false
  never_both w x y h t = at (ties (before rules) w y) refl
    where
      at : (b : Bool) → ties (before rules) w y ≡ b → ties (before rules) w y ≡ false
      at false e = e
      at true e =
          let a = both_false (before rules w x) (before rules x w) t in
          let b = both_false (before rules w y) (before rules y w) e in
          let c : before rules x y ≡ false = (before-order rules).chain x w y a.1 b.0 in absurd (wrong (sym h ∙ c))
        where
          wrong : true ≡ false → ⊥
          wrong e = cc

  none_tie : (w x : Ranged T) (ys : List (Ranged T)) → BeforeEach x ys → ties (before rules) w x ≡ true → filter (ties (before rules) w) ys ≡ []
  none_tie w x [] h t = refl
  none_tie w x (y ∷ ys) h t = rw (never_both w x y h.0 t) (none_tie w x ys h.1 t)

  one_ties : (w : Ranged T) (xs ys : List (Ranged T)) → EachBefore xs ys → (filter (ties (before rules) w) xs ≡ []) ⊎ (filter (ties (before rules) w) ys ≡ [])
  one_ties w [] ys h = inl refl
  one_ties w (x ∷ xs) ys h = at (ties (before rules) w x) refl (one_ties w xs ys h.1)
    where
      at : (b : Bool) → ties (before rules) w x ≡ b → (filter (ties (before rules) w) xs ≡ []) ⊎ (filter (ties (before rules) w) ys ≡ [])
          → (cond b (x ∷ filter (ties (before rules) w) xs) (filter (ties (before rules) w) xs) ≡ []) ⊎ (filter (ties (before rules) w) ys ≡ [])
      at true e k = inr (none_tie w x ys h.0 e)
      at false e k = k

  swapped : (w : Ranged T) (xs ys : List (Ranged T)) → EachBefore xs ys
      → filter (ties (before rules) w) ys ++ filter (ties (before rules) w) xs ≡ filter (ties (before rules) w) xs ++ filter (ties (before rules) w) ys
  swapped w xs ys h = at (one_ties w xs ys h)
    where
      f : List (Ranged T)
      f = filter (ties (before rules) w) xs

      g : List (Ranged T)
      g = filter (ties (before rules) w) ys

      at : (f ≡ []) ⊎ (g ≡ []) → g ++ f ≡ f ++ g
      at (inl e) = ap (λ l. g ++ l) e ∙ (append-nil g ∙ sym (ap (λ l. l ++ g) e))
      at (inr e) = ap (λ l. l ++ f) e ∙ sym (ap (λ l. f ++ l) e ∙ append-nil f)

  ties-swapped : (w : Ranged T) (run taken later left : List (Ranged T)) → EachBefore taken later
      → filter (ties (before rules) w) (run ++ (later ++ (taken ++ left))) ≡ filter (ties (before rules) w) ((run ++ taken) ++ (later ++ left))
  ties-swapped w run taken later left h =
      let t : Ranged T → Bool = ties (before rules) w in
      filter-append t run (later ++ (taken ++ left))
      ∙ (ap (λ l. filter t run ++ l) (filter-append t later (taken ++ left))
      ∙ (ap (λ l. filter t run ++ (filter t later ++ l)) (filter-append t taken left)
      ∙ (ap (λ l. filter t run ++ l) (sym (append_assoc (filter t later) (filter t taken) (filter t left)))
      ∙ (ap (λ l. filter t run ++ (l ++ filter t left)) (swapped w taken later h)
      ∙ (ap (λ l. filter t run ++ l) (append_assoc (filter t taken) (filter t later) (filter t left))
      ∙ (sym (append_assoc (filter t run) (filter t taken) (filter t later ++ filter t left))
      ∙ (ap (λ l. l ++ (filter t later ++ filter t left)) (sym (filter-append t run taken))
      ∙ (ap (λ l. filter t (run ++ taken) ++ l) (sym (filter-append t later left))
      ∙ sym (filter-append t (run ++ taken) (later ++ left))))))))))

  -- ranges that belong before others may stand before them in a list that is to be sorted
  pub sort-swapped : (run taken later left : List (Ranged T)) → EachBefore taken later
      → stable_sort (before rules) (run ++ (later ++ (taken ++ left))) ≡ stable_sort (before rules) ((run ++ taken) ++ (later ++ left))
  sort-swapped run taken later left h =
      let o = before-order rules in
      same_from_ties (before rules) o (stable_sort (before rules) (run ++ (later ++ (taken ++ left)))) (stable_sort (before rules) ((run ++ taken) ++ (later ++ left)))
      (Rises-stable_sort (before rules) o (run ++ (later ++ (taken ++ left)))) (Rises-stable_sort (before rules) o ((run ++ taken) ++ (later ++ left)))
      (λ w. filter-stable_sort (before rules) o w (run ++ (later ++ (taken ++ left)))
      ∙ (ties-swapped w run taken later left h ∙ sym (filter-stable_sort (before rules) o w ((run ++ taken) ++ (later ++ left)))))

  -- What is done, a run that is to be sorted, what is still to come of the set, and the added ranges that are left.
  pub record IsUpdating (most : ℕ) (done run later added : List (Ranged T)) : Type 0 where
    pub done_rises : Rises (before rules) done
    pub done_run : Below done run
    pub done_later : Below done later
    pub done_added : Below done added
    pub run_later : Below run later
    pub later_rises : Rises (before rules) later
    pub added_rises : Rises (before rules) added
    pub done_forward : AllForward done
    pub run_forward : AllForward run
    pub later_forward : AllForward later
    pub added_forward : AllForward added
    pub room : length done + length run + length later + length added ≤ most

  pub updating_init : (whole add : List (Ranged T)) → Rises (before rules) whole → Rises (before rules) add → AllForward whole → AllForward add → IsUpdating (length whole + length add) [] [] whole add
  updating_init whole add h k f g = record {
    done_rises = tt;
    done_run = tt;
    done_later = tt;
    done_added = tt;
    run_later = tt;
    later_rises = h;
    added_rises = k;
    done_forward = tt;
    run_forward = tt;
    later_forward = f;
    added_forward = g;
    room = omega arith;
  }

  -- added ranges are taken
  pub updating_take : (most : ℕ) (done run chunk rest taken left : List (Ranged T)) → IsUpdating most done run (chunk ++ rest) (taken ++ left) → StandBefore rules chunk taken → IsUpdating most done (run ++ taken) (chunk ++ rest) left
  updating_take most done run [] rest [] left h s = subst (λ xs. IsUpdating most done xs rest left) (sym (append-nil run)) h
  updating_take most done run [] rest (x ∷ taken) left h s = absurd s
  updating_take most done run (u ∷ us) rest taken left h s = record {
    done_rises = h.done_rises;
    done_run = any_both rules done run taken h.done_run (any_left rules done taken left h.done_added);
    done_later = h.done_later;
    done_added = below_right done taken left h.done_added;
    run_later = below_append run taken (u ∷ us ++ rest) h.run_later (none_after taken (u ∷ us ++ rest) (each_before u us taken s (us ++ rest) h.later_rises.0));
    later_rises = h.later_rises;
    added_rises = rises_right rules taken left h.added_rises;
    done_forward = h.done_forward;
    run_forward = forward-append run taken h.run_forward (forward_left taken left h.added_forward);
    later_forward = h.later_forward;
    added_forward = forward_right taken left h.added_forward;
    room = let r = h.room in let m = length-append taken left in let n = length-append run taken in omega (arith, r, m, n);
  }

  pub goes_take : (p : Ranged T → Bool) (whole done run chunk rest taken left : List (Ranged T)) → Rises (before rules) (chunk ++ rest) → StandBefore rules chunk taken
      → whole ≡ done ++ stable_sort (before rules) (run ++ (filter p (chunk ++ rest) ++ (taken ++ left))) → whole ≡ done ++ stable_sort (before rules) ((run ++ taken) ++ (filter p (chunk ++ rest) ++ left))
  goes_take p whole done run [] rest [] left r s h = h ∙ ap (λ xs. done ++ stable_sort (before rules) (xs ++ (filter p rest ++ left))) (sym (append-nil run))
  goes_take p whole done run [] rest (x ∷ taken) left r s h = absurd s
  goes_take p whole done run (u ∷ us) rest taken left r s h =
      h ∙ ap (λ xs. done ++ xs) (sort-swapped run taken (filter p (u ∷ us ++ rest)) left (each_filter p taken (u ∷ us ++ rest) (each_before u us taken s (us ++ rest) r.0)))

  -- no added range that is left belongs before one of a chunk
  beyond : (chunk added : List (Ranged T)) → Rises (before rules) chunk → Rises (before rules) added → IsBeyond rules chunk added → Below chunk added
  beyond chunk [] r a h = below_nil chunk
  beyond [] (x ∷ added) r a h = tt
  beyond (u ∷ []) (x ∷ added) r a h = ((h, NoneBelow-chain (before rules) (before-order rules) u x added h a.0), tt)
  beyond (u ∷ v ∷ chunk) (x ∷ added) r a h =
      let k : Below (v ∷ chunk) (x ∷ added) = beyond (v ∷ chunk) (x ∷ added) r.1 a h in
      (NoneBelow-chain (before rules) (before-order rules) u v (x ∷ added) r.0.0 k.0, k)

  -- a chunk is copied
  pub updating_copy : (most : ℕ) (done run new chunk rest added : List (Ranged T)) → IsUpdating most done run (chunk ++ rest) added → KeepsPart chunk run new → IsUpdating most done new rest added
  updating_copy most done run new chunk rest added h k = record {
    done_rises = h.done_rises;
    done_run = part_right chunk run new k done h.done_run (any_left rules done chunk rest h.done_later);
    done_later = below_right done chunk rest h.done_later;
    done_added = h.done_added;
    run_later = part_left chunk run new k rest (below_right run chunk rest h.run_later) (rises_across rules chunk rest h.later_rises);
    later_rises = rises_right rules chunk rest h.later_rises;
    added_rises = h.added_rises;
    done_forward = h.done_forward;
    run_forward = part_forward chunk run new k h.run_forward (forward_left chunk rest h.later_forward);
    later_forward = forward_right chunk rest h.later_forward;
    added_forward = h.added_forward;
    room = let r = h.room in let s = k.room in let m = length-append chunk rest in let n = length-append run chunk in omega (arith, r, s, m, n);
  }

  pub goes_copy : (p : Ranged T → Bool) (whole done run new chunk rest added : List (Ranged T)) → new ≡ run ++ filter p chunk
      → whole ≡ done ++ stable_sort (before rules) (run ++ (filter p (chunk ++ rest) ++ added)) → whole ≡ done ++ stable_sort (before rules) (new ++ (filter p rest ++ added))
  goes_copy p whole done run new chunk rest added n h =
      h
      ∙ ap (λ xs. done ++ stable_sort (before rules) xs)
      (ap (λ xs. run ++ (xs ++ added)) (filter-append p chunk rest)
      ∙ (ap (λ xs. run ++ xs) (append_assoc (filter p chunk) (filter p rest) added)
      ∙ (sym (append_assoc run (filter p chunk) (filter p rest ++ added)) ∙ ap (λ xs. xs ++ (filter p rest ++ added)) (sym n))))

  -- what is done and the run, sorted
  sorted_rises : (done run : List (Ranged T)) → Rises (before rules) done → Below done run → Rises (before rules) (done ++ stable_sort (before rules) run)
  sorted_rises done run h k =
      Rises-append (before rules) (before-order rules) done (stable_sort (before rules) run) h (Rises-stable_sort (before rules) (before-order rules) run) (below_sorted done run k)

  pub updating_order : (most : ℕ) (done run later added : List (Ranged T)) → IsUpdating most done run later added → Ascend 0 (done ++ stable_sort (before rules) run)
  updating_order most done run later added h = rises_ascend rules (done ++ stable_sort (before rules) run) (sorted_rises done run h.done_rises h.done_run)

  -- a chunk is shared
  run_added : (run chunk rest added : List (Ranged T)) → 1 ≤ length chunk → Below run (chunk ++ rest) → Below chunk added → Below run added
  run_added run [] rest added l h k = absurd (omega (arith, l))
  run_added run (u ∷ us) rest added l h k = through rules run added u (us ++ rest) h k.0

  pub updating_share : (most : ℕ) (done run chunk rest added : List (Ranged T)) → 1 ≤ length chunk → IsUpdating most done run (chunk ++ rest) added → IsBeyond rules chunk added
      → IsUpdating most ((done ++ stable_sort (before rules) run) ++ chunk) [] rest added
  updating_share most done run chunk rest added l h b =
      let s : List (Ranged T) = stable_sort (before rules) run in
      let c_rises : Rises (before rules) chunk = rises_left rules chunk rest h.later_rises in
      let c_added : Below chunk added = beyond chunk added c_rises h.added_rises b in
      let r_added : Below run added = run_added run chunk rest added l h.run_later c_added in
      record {
        done_rises = Rises-append (before rules) (before-order rules) (done ++ s) chunk (sorted_rises done run h.done_rises h.done_run) c_rises
            (below_append done s chunk (any_left rules done chunk rest h.done_later) (sorted_below run chunk (any_left rules run chunk rest h.run_later)));
        done_run = below_nil ((done ++ s) ++ chunk);
        done_later = below_append (done ++ s) chunk rest
            (below_append done s rest (below_right done chunk rest h.done_later) (sorted_below run rest (below_right run chunk rest h.run_later)))
            (rises_across rules chunk rest h.later_rises);
        done_added = below_append (done ++ s) chunk added (below_append done s added h.done_added (sorted_below run added r_added)) c_added;
        run_later = tt;
        later_rises = rises_right rules chunk rest h.later_rises;
        added_rises = h.added_rises;
        done_forward = forward-append (done ++ s) chunk (forward-append done s h.done_forward (forward_sort rules run h.run_forward)) (forward_left chunk rest h.later_forward);
        run_forward = tt;
        later_forward = forward_right chunk rest h.later_forward;
        added_forward = h.added_forward;
        room = let r = h.room in let m = length-append chunk rest in let n = length-append (done ++ s) chunk in let k = length-append done s in let j = length-stable_sort (before rules) run in omega (arith, r, m, n, k, j);
      }

  pub goes_share : (p : Ranged T → Bool) (most : ℕ) (whole done run chunk rest added : List (Ranged T)) → 1 ≤ length chunk → IsUpdating most done run (chunk ++ rest) added → IsBeyond rules chunk added → filter p chunk ≡ chunk
      → whole ≡ done ++ stable_sort (before rules) (run ++ (filter p (chunk ++ rest) ++ added)) → whole ≡ ((done ++ stable_sort (before rules) run) ++ chunk) ++ stable_sort (before rules) (filter p rest ++ added)
  goes_share p most whole done run chunk rest added l u b k h =
      let o = before-order rules in
      let s : List (Ranged T) = stable_sort (before rules) run in
      let c_rises : Rises (before rules) chunk = rises_left rules chunk rest u.later_rises in
      let c_added : Below chunk added = beyond chunk added c_rises u.added_rises b in
      let r_added : Below run added = run_added run chunk rest added l u.run_later c_added in
      let tail : List (Ranged T) = filter p rest ++ added in
      let c_tail : Below chunk tail = any_both rules chunk (filter p rest) added (below_filter p chunk rest (rises_across rules chunk rest u.later_rises)) c_added in
      let r_tail : Below run (chunk ++ tail) =
      any_both rules run chunk tail (any_left rules run chunk rest u.run_later)
      (any_both rules run (filter p rest) added (below_filter p run rest (below_right run chunk rest u.run_later)) r_added) in
      h
      ∙ (ap (λ xs. done ++ stable_sort (before rules) (run ++ (xs ++ added))) (filter-append p chunk rest ∙ ap (λ xs. xs ++ filter p rest) k)
      ∙ (ap (λ xs. done ++ stable_sort (before rules) (run ++ xs)) (append_assoc chunk (filter p rest) added)
      ∙ (ap (λ xs. done ++ xs) (stable_sort-append (before rules) o run (chunk ++ tail) r_tail)
      ∙ (ap (λ xs. done ++ (s ++ xs)) (stable_sort-append (before rules) o chunk tail c_tail)
      ∙ (ap (λ xs. done ++ (s ++ (xs ++ stable_sort (before rules) tail))) (stable_sort-risen (before rules) o chunk c_rises)
      ∙ (sym (append_assoc done s (chunk ++ stable_sort (before rules) tail)) ∙ sym (append_assoc (done ++ s) chunk (stable_sort (before rules) tail))))))))

  -- at the end
  pub updating_end : (most : ℕ) (done run added : List (Ranged T)) → IsUpdating most done run [] added → IsUpdating most done (run ++ added) [] []
  updating_end most done run added h = record {
    done_rises = h.done_rises;
    done_run = any_both rules done run added h.done_run h.done_added;
    done_later = below_nil done;
    done_added = below_nil done;
    run_later = below_nil (run ++ added);
    later_rises = tt;
    added_rises = tt;
    done_forward = h.done_forward;
    run_forward = forward-append run added h.run_forward h.added_forward;
    later_forward = tt;
    added_forward = tt;
    room = let r = h.room in let n = length-append run added in omega (arith, r, n);
  }

  pub no_fault_done : (most : ℕ) (done run later added : List (Ranged T)) → IsUpdating most done run later added → first_fault rules (done ++ stable_sort (before rules) run) ≡ None
  no_fault_done most done run later added h =
      no_fault_from rules 0 None (done ++ stable_sort (before rules) run) (sorted_rises done run h.done_rises h.done_run) tt
      (forward-append done (stable_sort (before rules) run) h.done_forward (forward_sort rules run h.run_forward))

  -- after added ranges are taken before a chunk
  pub after_take : (most : ℕ) (done run chunk rest added new_run new_added : List (Ranged T)) → IsUpdating most done run (chunk ++ rest) added → TakesBefore rules chunk run added new_run new_added
      → IsUpdating most done new_run (chunk ++ rest) new_added
  after_take most done run chunk rest added new_run new_added h t =
      subst (λ xs. IsUpdating most done xs (chunk ++ rest) new_added) (sym t.run)
      (updating_take most done run chunk rest t.taken new_added (subst (λ xs. IsUpdating most done run (chunk ++ rest) xs) t.added h) t.before)

  pub goes_after_take : (p : Ranged T → Bool) (whole done run chunk rest added new_run new_added : List (Ranged T)) → Rises (before rules) (chunk ++ rest) → TakesBefore rules chunk run added new_run new_added
      → whole ≡ done ++ stable_sort (before rules) (run ++ (filter p (chunk ++ rest) ++ added)) → whole ≡ done ++ stable_sort (before rules) (new_run ++ (filter p (chunk ++ rest) ++ new_added))
  goes_after_take p whole done run chunk rest added new_run new_added r t h =
      subst (λ xs. whole ≡ done ++ stable_sort (before rules) (xs ++ (filter p (chunk ++ rest) ++ new_added))) (sym t.run)
      (goes_take p whole done run chunk rest t.taken new_added r t.before (subst (λ xs. whole ≡ done ++ stable_sort (before rules) (run ++ (filter p (chunk ++ rest) ++ xs))) t.added h))

pub nothing_left : {X : Type 0} (xs : List X) (i : ℕ) → length xs ≤ i → drop i xs ≡ []
nothing_left [] zero l = refl
nothing_left [] (suc i) l = refl
nothing_left (x ∷ xs) zero l = absurd (omega (arith, l))
nothing_left (x ∷ xs) (suc i) l = nothing_left xs i (omega (arith, l))
