use Rattle.std.proofs.Common.{◌≡◌, ◌∙◌, ◌+◌, ℕ, zero, suc, List, [], ◌∷◌, ◌++◌, Bool, true, false, cond, eqb, nat_lt, ◌&&◌, ◌||◌, fold, flat_map, refl, sym, ap, subst, ⊎_elim, arith, append_assoc}
use Rattle.std.proofs.lemmas.Bool.{cases_Bool, eqb-true, eqb-false, ltb-true, lt-ltb, true≢false}
use Rattle.std.proofs.lemmas.List.{append-nil}
use Rattle.std.proofs.lemmas.List.Folds.{list_any-append}
use Rattle.std.proofs.lemmas.List.Sums.{fold-append}
use Rattle.std.specs.List.{list_any}
use Rattle.ext_tree.specs.declared.visit.Visit.{Visit}
use Rattle.ext_tree.specs.Flat.{level, has_level, at_level, is_higher, is_same, is_passed_over, chosen_from, chosen, sorted_order}
use Rattle.ext_tree.specs.Taking.{take_in, take_level, flat}
use Rattle.ext_tree.proofs.Skip.{level-append}

abbrev has : List ℕ → ℕ → Bool
has ns n = list_any (eqb n) ns

or-false : (b : Bool) → (b || false) ≡ b
or-false true = refl
or-false false = refl

or-true : (b : Bool) → (b || true) ≡ true
or-true true = refl
or-true false = refl

or-assoc : (a b c : Bool) → ((a || b) || c) ≡ (a || (b || c))
or-assoc true b c = refl
or-assoc false b c = refl

-- what a list has after a node was taken in
has-take : (acc : List ℕ) (m n : ℕ) → has (take_in acc m) n ≡ (has acc n || eqb n m)
has-take acc m n =
    ⊎_elim
    (λ (e : list_any (eqb m) acc ≡ true). rw e
    (⊎_elim
    (λ (q : eqb n m ≡ true). let same : list_any (eqb n) acc ≡ true = subst (λ (x : ℕ). list_any (eqb x) acc ≡ true) (sym (eqb-true n m q)) e in rw same refl)
    (λ (q : eqb n m ≡ false). rw q (sym (or-false (list_any (eqb n) acc))))
    (cases_Bool (eqb n m))))
    (λ (e : list_any (eqb m) acc ≡ false). rw e (list_any-append (eqb n) acc (m ∷ []) ∙ ap (λ (b : Bool). list_any (eqb n) acc || b) (or-false (eqb n m))))
    (cases_Bool (list_any (eqb m) acc))

has-fold : (acc ns : List ℕ) (n : ℕ) → has (fold take_in acc ns) n ≡ (has acc n || has ns n)
has-fold acc [] n = sym (or-false (list_any (eqb n) acc))
has-fold acc (m ∷ ns) n = has-fold (take_in acc m) ns n ∙ ap (λ (b : Bool). b || list_any (eqb n) ns) (has-take acc m n) ∙ or-assoc (list_any (eqb n) acc) (eqb n m) (list_any (eqb n) ns)

has-level : (i n : ℕ) (vs : List Visit) → has (at_level i vs) n ≡ list_any (is_same n i) vs
has-level i n [] = refl
has-level i n (v ∷ vs) =
    let ih = has-level i n vs in
    ⊎_elim
    (λ (e : has_level i v ≡ true). rw e (⊎_elim (λ (q : eqb n v.node ≡ true). rw q refl) (λ (q : eqb n v.node ≡ false). rw q ih) (cases_Bool (eqb n v.node))))
    (λ (e : has_level i v ≡ false). rw e (⊎_elim (λ (q : eqb n v.node ≡ true). rw q ih) (λ (q : eqb n v.node ≡ false). rw q ih) (cases_Bool (eqb n v.node))))
    (cases_Bool (has_level i v))

-- a list that has exactly the nodes met above a level
abbrev HasHigher : List Visit → ℕ → List ℕ → Type 0
HasHigher all i taken = (n : ℕ) → has taken n ≡ list_any (is_higher n i) all

step-here : (i : ℕ) (acc : List ℕ) (v : Visit) (vs rest : List Visit) (p : Bool) → has_level i v ≡ true → p ≡ list_any (eqb v.node) acc
    → fold take_in (take_in acc v.node) (at_level i vs) ≡ take_in acc v.node ++ at_level i rest → fold take_in acc (at_level i (v ∷ vs)) ≡ acc ++ at_level i (cond p rest (v ∷ rest))
step-here i acc v vs rest true e test ih =
    let same : take_in acc v.node ≡ acc = rw (sym test) refl in rw e (ih ∙ ap (λ (xs : List ℕ). xs ++ at_level i rest) same)
step-here i acc v vs rest false e test ih =
    let grown : take_in acc v.node ≡ acc ++ v.node ∷ [] = rw (sym test) refl in rw e (ih ∙ ap (λ (xs : List ℕ). xs ++ at_level i rest) grown ∙ append_assoc acc (v.node ∷ []) (at_level i rest))

step-other : (i : ℕ) (acc : List ℕ) (v : Visit) (vs rest : List Visit) (p : Bool) → has_level i v ≡ false
    → fold take_in acc (at_level i vs) ≡ acc ++ at_level i rest → fold take_in acc (at_level i (v ∷ vs)) ≡ acc ++ at_level i (cond p rest (v ∷ rest))
step-other i acc v vs rest true e ih = rw e ih
step-other i acc v vs rest false e ih = rw e ih

module _ (all : List Visit) (i : ℕ) (taken : List ℕ) (higher : HasHigher all i taken) where
  before-has : (before : List Visit) (n : ℕ) → has (fold take_in taken (at_level i before)) n ≡ (list_any (is_higher n i) all || list_any (is_same n i) before)
  before-has before n = has-fold taken (at_level i before) n ∙ ap (λ (b : Bool). b || has (at_level i before) n) (higher n) ∙ ap (λ (b : Bool). list_any (is_higher n i) all || b) (has-level i n before)

  next-before : (before : List Visit) (v : Visit) → fold take_in taken (at_level i (before ++ v ∷ [])) ≡ fold take_in (fold take_in taken (at_level i before)) (at_level i (v ∷ []))
  next-before before v = ap (fold take_in taken) (level-append i before (v ∷ [])) ∙ fold-append take_in taken (at_level i before) (at_level i (v ∷ []))

  -- the nodes of a level are the chosen ones
  level-chosen : (before vs : List Visit) → fold take_in (fold take_in taken (at_level i before)) (at_level i vs) ≡ fold take_in taken (at_level i before) ++ at_level i (chosen_from all before vs)
  level-chosen before [] = sym (append-nil (fold take_in taken (at_level i before)))
  level-chosen before (v ∷ vs) =
      let acc : List ℕ = fold take_in taken (at_level i before) in
      let rest : List Visit = chosen_from all (before ++ v ∷ []) vs in
      let ih = level-chosen (before ++ v ∷ []) vs in
      let step = next-before before v in
      ⊎_elim
      (λ (e : has_level i v ≡ true).
      let at : level v.precedence ≡ i = eqb-true (level v.precedence) i e in
      let test : is_passed_over all before v ≡ list_any (eqb v.node) acc = subst (λ (k : ℕ). (list_any (is_higher v.node k) all || list_any (is_same v.node k) before) ≡ list_any (eqb v.node) acc) (sym at) (sym (before-has before v.node)) in
      let one : fold take_in acc (at_level i (v ∷ [])) ≡ take_in acc v.node = rw e refl in
      step-here i acc v vs rest (is_passed_over all before v) e test (subst (λ (xs : List ℕ). fold take_in xs (at_level i vs) ≡ xs ++ at_level i rest) (step ∙ one) ih))
      (λ (e : has_level i v ≡ false).
      let none : fold take_in acc (at_level i (v ∷ [])) ≡ acc = rw e refl in
      step-other i acc v vs rest (is_passed_over all before v) e (subst (λ (xs : List ℕ). fold take_in xs (at_level i vs) ≡ xs ++ at_level i rest) (step ∙ none) ih))
      (cases_Bool (has_level i v))

-- a level more is above the next
lt-next : (l i : ℕ) → nat_lt l (i + 1) ≡ (nat_lt l i || eqb l i)
lt-next l i =
    ⊎_elim
    (λ (e : nat_lt l i ≡ true). let below = ltb-true l i e in rw e (lt-ltb l (i + 1) (omega (arith, below))))
    (λ (e : nat_lt l i ≡ false). rw e
    (⊎_elim
    (λ (q : eqb l i ≡ true). let same = eqb-true l i q in rw q (lt-ltb l (i + 1) (omega (arith, same))))
    (λ (q : eqb l i ≡ false). let other = eqb-false l i q in rw q
    (⊎_elim
    (λ (r : nat_lt l (i + 1) ≡ true). let below = ltb-true l (i + 1) r in absurd (true≢false (sym (lt-ltb l i (omega (arith, below, other))) ∙ e)))
    (λ (r : nat_lt l (i + 1) ≡ false). r)
    (cases_Bool (nat_lt l (i + 1)))))
    (cases_Bool (eqb l i))))
    (cases_Bool (nat_lt l i))

shuffle : (b x y hs ss : Bool) → ((b && (x || y)) || (hs || ss)) ≡ (((b && x) || hs) || ((b && y) || ss))
shuffle false x y hs ss = refl
shuffle true true y hs ss = refl
shuffle true false true true ss = refl
shuffle true false true false ss = refl
shuffle true false false hs ss = refl

higher-next : (n i : ℕ) (vs : List Visit) → list_any (is_higher n (i + 1)) vs ≡ (list_any (is_higher n i) vs || list_any (is_same n i) vs)
higher-next n i [] = refl
higher-next n i (v ∷ vs) =
    ap (λ (b : Bool). (eqb n v.node && b) || list_any (is_higher n (i + 1)) vs) (lt-next (level v.precedence) i)
    ∙ ap (λ (b : Bool). (eqb n v.node && (nat_lt (level v.precedence) i || eqb (level v.precedence) i)) || b) (higher-next n i vs)
    ∙ shuffle (eqb n v.node) (nat_lt (level v.precedence) i) (eqb (level v.precedence) i) (list_any (is_higher n i) vs) (list_any (is_same n i) vs)

-- nothing is above the highest level
none-higher : (n : ℕ) (vs : List Visit) → false ≡ list_any (is_higher n 0) vs
none-higher n [] = refl
none-higher n (v ∷ vs) = none-higher n vs ∙ ap (λ (b : Bool). b || list_any (is_higher n 0) vs) (sym (off (eqb n v.node) (level v.precedence)))
  where
    off : (b : Bool) (l : ℕ) → (b && nat_lt l 0) ≡ false
    off true l = ⊎_elim (λ (e : nat_lt l 0 ≡ true). let below = ltb-true l 0 e in absurd (omega (arith, below))) (λ (e : nat_lt l 0 ≡ false). e) (cases_Bool (nat_lt l 0))
    off false l = refl

abbrev count_from : ℕ → ℕ → List ℕ
count_from i zero = []
count_from i (suc k) = i ∷ count_from (i + 1) k

levels-chosen : (all : List Visit) (k i : ℕ) (taken : List ℕ) → HasHigher all i taken → fold (take_level all) taken (count_from i k) ≡ taken ++ flat_map (λ (j : ℕ). at_level j (chosen all)) (count_from i k)
levels-chosen all zero i taken higher = sym (append-nil taken)
levels-chosen all (suc k) i taken higher =
    let next : HasHigher all (i + 1) (take_level all taken i) = λ n. before-has all i taken higher all n ∙ sym (higher-next n i all) in
    levels-chosen all k (i + 1) (take_level all taken i) next
    ∙ ap (λ (xs : List ℕ). xs ++ flat_map (λ (j : ℕ). at_level j (chosen all)) (count_from (i + 1) k)) (level-chosen all i taken higher [] all)
    ∙ append_assoc taken (at_level i (chosen all)) (flat_map (λ (j : ℕ). at_level j (chosen all)) (count_from (i + 1) k))

pub flat-sorted : (vs : List Visit) → flat vs ≡ sorted_order vs
flat-sorted vs = levels-chosen vs 5 0 [] (λ n. none-higher n vs)
