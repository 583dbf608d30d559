-- A stable sort has one answer only, that of `stable_sort`.
use Rattle.std.proofs.Common.{◌≡◌, ℕ, suc, ◌<◌, ◌≤◌, Bool, true, false, not, ◌&&◌, ◌||◌, cond, List, [], ◌∷◌, ◌++◌, length, get_or, refl, sym, ◌∙◌, ap, arith}
use Rattle.std.proofs.lemmas.List.Elements.{filter-append}
use Rattle.std.proofs.lemmas.Grind.{common_steps}
use Rattle.std.proofs.lemmas.List.Sorted.{sorted_far}
use Rattle.std.specs.Cmp.{IsStrictWeakOrder}
use Rattle.std.specs.List.{filter, list_any}
use Rattle.std.specs.List.Sorted.{IsSortedBy, IsStableBy, ties}
use Rattle.stable_order.specs.StableSort.{insert_by, stable_sort}

module _ {X : Type 0} (lt : X → X → Bool) where
  -- no element is less than z
  abbrev pub NoneBelow : X → List X → Type 0
  NoneBelow z [] = Unit {0}
  NoneBelow z (x ∷ xs) = (lt x z ≡ false) × NoneBelow z xs

  -- no element is less than an earlier one
  abbrev pub Rises : List X → Type 0
  Rises [] = Unit {0}
  Rises (x ∷ xs) = NoneBelow x xs × Rises xs

  pub NoneBelow-from_index : (z : X) (xs : List X) → ((k : ℕ) → k < length xs → lt (get_or xs k z) z ≡ false) → NoneBelow z xs
  NoneBelow-from_index z [] h = tt
  NoneBelow-from_index z (x ∷ xs) h = (h 0 (omega arith), NoneBelow-from_index z xs (λ k l. h (suc k) (omega arith)))

  pub Rises-from_index : (xs : List X) → ((i j : ℕ) (d : X) → i ≤ j → j < length xs → lt (get_or xs j d) (get_or xs i d) ≡ false) → Rises xs
  Rises-from_index [] h = tt
  Rises-from_index (x ∷ xs) h = (
    NoneBelow-from_index x xs (λ k l. h 0 (suc k) x (omega arith) (omega arith)),
    Rises-from_index xs (λ i j d le l. h (suc i) (suc j) d (omega arith) (omega arith)),
  )

  or_swap : (a b c : Bool) → (a || (b || c)) ≡ (b || (a || c))
  or_swap true true c = refl
  or_swap true false c = refl
  or_swap false b c = refl

  list_any-placed : (q : X → Bool) (x y : X) (ys : List X) → list_any q (insert_by lt x ys) ≡ (q x || list_any q ys)
      → (b : Bool) → list_any q (cond b (y ∷ insert_by lt x ys) (x ∷ y ∷ ys)) ≡ (q x || (q y || list_any q ys))
  list_any-placed q x y ys e true = ap (λ b. q y || b) e ∙ or_swap (q y) (q x) (list_any q ys)
  list_any-placed q x y ys e false = refl

  list_any-insert : (q : X → Bool) (x : X) (xs : List X) → list_any q (insert_by lt x xs) ≡ (q x || list_any q xs)
  list_any-insert q x [] = refl
  list_any-insert q x (y ∷ ys) = list_any-placed q x y ys (list_any-insert q x ys) (lt y x)

  -- sorting changes no answer to whether some element passes a test
  pub list_any-stable_sort : (q : X → Bool) (xs : List X) → list_any q (stable_sort lt xs) ≡ list_any q xs
  list_any-stable_sort q [] = refl
  list_any-stable_sort q (x ∷ xs) = list_any-insert q x (stable_sort lt xs) ∙ ap (λ b. q x || b) (list_any-stable_sort q xs)

  length-insert : (x : X) (xs : List X) → length (insert_by lt x xs) ≡ suc (length xs)
  length-insert x [] = refl
  length-insert x (y ∷ ys) = at (lt y x) (length-insert x ys)
    where
      at : (b : Bool) → length (insert_by lt x ys) ≡ suc (length ys) → length (cond b (y ∷ insert_by lt x ys) (x ∷ y ∷ ys)) ≡ suc (suc (length ys))
      at true e = ap suc e
      at false e = refl

  pub length-stable_sort : (xs : List X) → length (stable_sort lt xs) ≡ length xs
  length-stable_sort [] = refl
  length-stable_sort (x ∷ xs) = length-insert x (stable_sort lt xs) ∙ ap suc (length-stable_sort xs)

module _ {X : Type 0} (lt : X → X → Bool) (o : IsStrictWeakOrder lt) where
  pub Rises-from_sorted : (xs : List X) → IsSortedBy lt xs → Rises lt xs
  Rises-from_sorted xs up = Rises-from_index lt xs (λ i j d le l. sorted_far lt o xs up i j d le l)

  not_below_itself : (x : X) (b : Bool) → lt x x ≡ b → lt x x ≡ false
  not_below_itself x false e = e
  not_below_itself x true e = o.one_way x x e

  ties_itself : (x : X) → ties lt x x ≡ true
  ties_itself x = let e = not_below_itself x (lt x x) refl in grind (arith, common_steps)

  pub NoneBelow-chain : (x y : X) (ys : List X) → lt y x ≡ false → NoneBelow lt y ys → NoneBelow lt x ys
  NoneBelow-chain x y [] e h = tt
  NoneBelow-chain x y (z ∷ zs) e h = (o.chain z y x h.0 e, NoneBelow-chain x y zs e h.1)

  NoneBelow-insert : (z x : X) (xs : List X) → lt x z ≡ false → NoneBelow lt z xs → NoneBelow lt z (insert_by lt x xs)
  NoneBelow-insert z x [] e h = (e, tt)
  NoneBelow-insert z x (y ∷ ys) e h =
      elim (lt y x) as (λ b. NoneBelow lt z (cond b (y ∷ insert_by lt x ys) (x ∷ y ∷ ys)))
      [ true ↦ (h.0, NoneBelow-insert z x ys e h.1) | false ↦ (e, h) ]

  Rises-placed : (x y : X) (ys : List X) → Rises lt (insert_by lt x ys) → Rises lt (y ∷ ys) → (b : Bool) → lt y x ≡ b → Rises lt (cond b (y ∷ insert_by lt x ys) (x ∷ y ∷ ys))
  Rises-placed x y ys r h true e = (NoneBelow-insert y x ys (o.one_way y x e) h.0, r)
  Rises-placed x y ys r h false e = ((e, NoneBelow-chain x y ys e h.0), h)

  Rises-insert : (x : X) (xs : List X) → Rises lt xs → Rises lt (insert_by lt x xs)
  Rises-insert x [] h = (tt, tt)
  Rises-insert x (y ∷ ys) h = Rises-placed x y ys (Rises-insert x ys h.1) h (lt y x) refl

  pub Rises-stable_sort : (xs : List X) → Rises lt (stable_sort lt xs)
  Rises-stable_sort [] = tt
  Rises-stable_sort (x ∷ xs) = Rises-insert x (stable_sort lt xs) (Rises-stable_sort xs)

  both_false : (a b : Bool) → (not a && not b) ≡ true → (a ≡ false) × (b ≡ false)
  both_false false false e = (refl, refl)
  both_false false true e = cc
  both_false true false e = cc
  both_false true true e = cc

  never_both : (w x y : X) → lt y x ≡ true → ties lt w x ≡ true → ties lt w y ≡ true → ⊥
  never_both w x y e p q =
      let a = both_false _ _ p in
      let b = both_false _ _ q in
      let c = o.chain y w x b.1 a.0 in cc

  apart : (x y : X) (f : List X) (a b : Bool) → (a ≡ true → b ≡ true → ⊥) → cond b (y ∷ cond a (x ∷ f) f) (cond a (x ∷ f) f) ≡ cond a (x ∷ cond b (y ∷ f) f) (cond b (y ∷ f) f)
  apart x y f true true h = absurd (h refl refl)
  apart x y f true false h = refl
  apart x y f false true h = refl
  apart x y f false false h = refl

  filter-placed : (w x y : X) (ys : List X) → filter (ties lt w) (insert_by lt x ys) ≡ filter (ties lt w) (x ∷ ys)
      → (b : Bool) → lt y x ≡ b → filter (ties lt w) (cond b (y ∷ insert_by lt x ys) (x ∷ y ∷ ys)) ≡ filter (ties lt w) (x ∷ y ∷ ys)
  filter-placed w x y ys r false e = refl
  filter-placed w x y ys r true e =
      ap (λ l. cond (ties lt w y) (y ∷ l) l) r ∙ apart x y (filter (ties lt w) ys) (ties lt w x) (ties lt w y) (never_both w x y e)

  filter-insert : (w x : X) (ys : List X) → filter (ties lt w) (insert_by lt x ys) ≡ filter (ties lt w) (x ∷ ys)
  filter-insert w x [] = refl
  filter-insert w x (y ∷ ys) = filter-placed w x y ys (filter-insert w x ys) (lt y x) refl

  pub filter-stable_sort : (w : X) (xs : List X) → filter (ties lt w) (stable_sort lt xs) ≡ filter (ties lt w) xs
  filter-stable_sort w [] = refl
  filter-stable_sort w (x ∷ xs) =
      filter-insert w x (stable_sort lt xs) ∙ ap (λ l. cond (ties lt w x) (x ∷ l) l) (filter-stable_sort w xs)

  -- what stands at the head of a filtered part is not less than z
  not_below-found : (z : X) (p : X → Bool) (ys : List X) (x : X) (rest : List X) → NoneBelow lt z ys → filter p ys ≡ x ∷ rest → lt x z ≡ false
  not_below-found z p [] x rest h e = cc
  not_below-found z p (y ∷ ys) x rest h e = not_below-tested z p y ys x rest h (λ e'. not_below-found z p ys x rest h.1 e') (p y) e
    where
      not_below-tested : (z : X) (p : X → Bool) (y : X) (ys : List X) (x : X) (rest : List X) → NoneBelow lt z (y ∷ ys) → (filter p ys ≡ x ∷ rest → lt x z ≡ false)
          → (b : Bool) → cond b (y ∷ filter p ys) (filter p ys) ≡ x ∷ rest → lt x z ≡ false
      not_below-tested z p y ys x rest h r true e = let same : y ≡ x = cc in ap (λ v. lt v z) (sym same) ∙ h.0
      not_below-tested z p y ys x rest h r false e = r e

  filter_prefix : (x : X) (xs : List X) → filter (ties lt x) (x ∷ xs) ≡ x ∷ filter (ties lt x) xs
  filter_prefix x xs = ap (λ b. cond b (x ∷ filter (ties lt x) xs) (filter (ties lt x) xs)) (ties_itself x)

  tails_same : (x : X) (f g : List X) (b : Bool) → cond b (x ∷ f) f ≡ cond b (x ∷ g) g → f ≡ g
  tails_same x f g true e = cc
  tails_same x f g false e = e

  both_not : (a b : Bool) → a ≡ false → b ≡ false → (not a && not b) ≡ true
  both_not false false e h = refl
  both_not false true e h = cc
  both_not true b e h = cc

  prefixes_tie : (x y : X) (xs ys : List X) → Rises lt (x ∷ xs) → Rises lt (y ∷ ys) → ((w : X) → filter (ties lt w) (x ∷ xs) ≡ filter (ties lt w) (y ∷ ys)) → ties lt x y ≡ true
  prefixes_tie x y xs ys h k same =
      let one = not_below-found y (ties lt x) (y ∷ ys) x (filter (ties lt x) xs) (not_below_itself y (lt y y) refl, k.0) (sym (same x) ∙ filter_prefix x xs) in
      let two = not_below-found x (ties lt y) (x ∷ xs) y (filter (ties lt y) ys) (not_below_itself x (lt x x) refl, h.0) (same y ∙ filter_prefix y ys) in
      both_not _ _ one two

  prefixes_same : (x y : X) (xs ys : List X) → ties lt x y ≡ true → filter (ties lt x) (x ∷ xs) ≡ filter (ties lt x) (y ∷ ys) → x ≡ y
  prefixes_same x y xs ys t e =
      let f : x ∷ filter (ties lt x) xs ≡ y ∷ filter (ties lt x) ys =
      sym (filter_prefix x xs) ∙ e ∙ ap (λ b. cond b (y ∷ filter (ties lt x) ys) (filter (ties lt x) ys)) t in
      cc

  -- two lists that rise, with the same elements at each tie in the same order, are one list
  pub same_from_ties : (xs ys : List X) → Rises lt xs → Rises lt ys → ((w : X) → filter (ties lt w) xs ≡ filter (ties lt w) ys) → xs ≡ ys
  same_from_ties [] [] h k same = refl
  same_from_ties [] (y ∷ ys) h k same = let e = same y ∙ filter_prefix y ys in cc
  same_from_ties (x ∷ xs) [] h k same = let e = sym (same x) ∙ filter_prefix x xs in cc
  same_from_ties (x ∷ xs) (y ∷ ys) h k same =
      let e = prefixes_same x y xs ys (prefixes_tie x y xs ys h k same) (same x) in
      let tails = same_from_ties xs ys h.1 k.1
      (λ w. tails_same y _ _ (ties lt w y) (ap (λ v. cond (ties lt w v) (v ∷ filter (ties lt w) xs) (filter (ties lt w) xs)) (sym e) ∙ same w)) in
      ap (λ v. v ∷ xs) e ∙ ap (λ l. y ∷ l) tails

  -- what std's stable sort ensures determines the answer
  pub stable_sort-is : (xs ys : List X) → IsSortedBy lt ys → IsStableBy lt xs ys → ys ≡ stable_sort lt xs
  stable_sort-is xs ys up stable =
      same_from_ties ys (stable_sort lt xs) (Rises-from_sorted ys up) (Rises-stable_sort xs) (λ w. stable w ∙ sym (filter-stable_sort w xs))

  -- a list that rises is its own sort
  pub stable_sort-risen : (xs : List X) → Rises lt xs → stable_sort lt xs ≡ xs
  stable_sort-risen xs h = same_from_ties (stable_sort lt xs) xs (Rises-stable_sort xs) h (λ w. filter-stable_sort w xs)

  -- no element of ys is less than one of xs
  abbrev pub NoneBelowAny : List X → List X → Type 0
  NoneBelowAny [] ys = Unit {0}
  NoneBelowAny (x ∷ xs) ys = NoneBelow lt x ys × NoneBelowAny xs ys

  NoneBelow-append : (z : X) (xs ys : List X) → NoneBelow lt z xs → NoneBelow lt z ys → NoneBelow lt z (xs ++ ys)
  NoneBelow-append z [] ys h k = k
  NoneBelow-append z (x ∷ xs) ys h k = (h.0, NoneBelow-append z xs ys h.1 k)

  pub Rises-append : (xs ys : List X) → Rises lt xs → Rises lt ys → NoneBelowAny xs ys → Rises lt (xs ++ ys)
  Rises-append [] ys h k b = k
  Rises-append (x ∷ xs) ys h k b = (NoneBelow-append x xs ys h.0 b.0, Rises-append xs ys h.1 k b.1)

  NoneBelow-sorted : (z : X) (xs : List X) → NoneBelow lt z xs → NoneBelow lt z (stable_sort lt xs)
  NoneBelow-sorted z [] h = tt
  NoneBelow-sorted z (x ∷ xs) h = NoneBelow-insert z x (stable_sort lt xs) h.0 (NoneBelow-sorted z xs h.1)

  NoneBelowAny-right : (xs ys : List X) → NoneBelowAny xs ys → NoneBelowAny xs (stable_sort lt ys)
  NoneBelowAny-right [] ys b = tt
  NoneBelowAny-right (x ∷ xs) ys b = (NoneBelow-sorted x ys b.0, NoneBelowAny-right xs ys b.1)

  NoneBelowAny-insert : (x : X) (xs ys : List X) → NoneBelow lt x ys → NoneBelowAny xs ys → NoneBelowAny (insert_by lt x xs) ys
  NoneBelowAny-insert x [] ys h b = (h, tt)
  NoneBelowAny-insert x (y ∷ xs) ys h b =
      elim (lt y x) as (λ c. NoneBelowAny (cond c (y ∷ insert_by lt x xs) (x ∷ y ∷ xs)) ys)
      [ true ↦ (b.0, NoneBelowAny-insert x xs ys h b.1) | false ↦ (h, b) ]

  NoneBelowAny-left : (xs ys : List X) → NoneBelowAny xs ys → NoneBelowAny (stable_sort lt xs) ys
  NoneBelowAny-left [] ys b = tt
  NoneBelowAny-left (x ∷ xs) ys b = NoneBelowAny-insert x (stable_sort lt xs) ys b.0 (NoneBelowAny-left xs ys b.1)

  -- the parts of a list may be sorted by themselves where no later part is less than an earlier one
  pub stable_sort-append : (xs ys : List X) → NoneBelowAny xs ys → stable_sort lt (xs ++ ys) ≡ stable_sort lt xs ++ stable_sort lt ys
  stable_sort-append xs ys b =
      same_from_ties (stable_sort lt (xs ++ ys)) (stable_sort lt xs ++ stable_sort lt ys) (Rises-stable_sort (xs ++ ys))
      (Rises-append (stable_sort lt xs) (stable_sort lt ys) (Rises-stable_sort xs) (Rises-stable_sort ys)
      (NoneBelowAny-left xs (stable_sort lt ys) (NoneBelowAny-right xs ys b)))
      (λ w.
      filter-stable_sort w (xs ++ ys) ∙ filter-append (ties lt w) xs ys
      ∙ sym
      (filter-append (ties lt w) (stable_sort lt xs) (stable_sort lt ys) ∙ ap (λ l. l ++ filter (ties lt w) (stable_sort lt ys)) (filter-stable_sort w xs)
      ∙ ap (λ l. filter (ties lt w) xs ++ l) (filter-stable_sort w ys)))
