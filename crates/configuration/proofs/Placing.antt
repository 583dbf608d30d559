use Rattle.std.proofs.Common.{◌≡◌, ◌<◌, ◌≤◌, ◌≢◌, ◌∙◌, ◌+◌, ℕ, zero, suc, List, [], ◌∷◌, ◌++◌, Bool, true, false, cond, nat_lt, Option, None, Some, slice_get, get_or, length, drop, map, refl, sym, ap, subst, ⊎_elim, arith, append_assoc, length-set, get_or-set_same, get_or-set_other}
use Rattle.std.proofs.lemmas.Bool.{cases_Bool, cases_eq, ne_eqb, eq-eqb, lt-ltb}
use Rattle.std.specs.Option.{option_or, unwrap_or}
use Rattle.ext_tree.specs.declared.node.Node.{Node}
use Rattle.std.specs.List.{range_with_len}
use Rattle.configuration.specs.Present.{facet_in, field_in, is_id, inputs_of, node_of_field, placed, noted}

pub placed-length : (lists : List (List ℕ)) (k : Option ℕ) (n : ℕ) → length (placed lists k n) ≡ length lists
placed-length lists None n = refl
placed-length lists (Some f) n = ⊎_elim (λ e. rw e (length-set lists f (get_or lists f [] ++ n ∷ []))) (λ e. rw e refl) (cases_Bool (nat_lt f (length lists)))

pub noted-length : (found : List (Option ℕ)) (k : Option ℕ) (n : ℕ) → length (noted found k n) ≡ length found
noted-length found None n = refl
noted-length found (Some f) n = ⊎_elim (λ e. rw e (length-set found f (Some (unwrap_or (get_or found f None) n)))) (λ e. rw e refl) (cases_Bool (nat_lt f (length found)))

placed-same : (lists : List (List ℕ)) (g n : ℕ) → g < length lists → get_or (placed lists (Some g) n) g [] ≡ get_or lists g [] ++ n ∷ []
placed-same lists g n lt = let e : nat_lt g (length lists) ≡ true = lt-ltb g (length lists) lt in rw e (get_or-set_same lists g (get_or lists g [] ++ n ∷ []) [] lt)

placed-other : (lists : List (List ℕ)) (g n f : ℕ) → f ≢ g → get_or (placed lists (Some g) n) f [] ≡ get_or lists f []
placed-other lists g n f ne = ⊎_elim (λ e. rw e (get_or-set_other lists g f (get_or lists g [] ++ n ∷ []) [] ne)) (λ e. rw e refl) (cases_Bool (nat_lt g (length lists)))

noted-same : (found : List (Option ℕ)) (g n : ℕ) → g < length found → get_or (noted found (Some g) n) g None ≡ Some (unwrap_or (get_or found g None) n)
noted-same found g n lt = let e : nat_lt g (length found) ≡ true = lt-ltb g (length found) lt in rw e (get_or-set_same found g (Some (unwrap_or (get_or found g None) n)) None lt)

noted-other : (found : List (Option ℕ)) (g n f : ℕ) → f ≢ g → get_or (noted found (Some g) n) f None ≡ get_or found f None
noted-other found g n f ne = ⊎_elim (λ e. rw e (get_or-set_other found g f (Some (unwrap_or (get_or found g None) n)) None ne)) (λ e. rw e refl) (cases_Bool (nat_lt g (length found)))

-- the first of two
first-of : (o : Option ℕ) (n : ℕ) (rest : Option ℕ) → option_or (Some (unwrap_or o n)) rest ≡ option_or o (Some n)
first-of None n rest = refl
first-of (Some m) n rest = refl

module _ (nodes : List Node) (n f : ℕ) (rest : List ℕ) where
  inputs-here : (k : Option ℕ) (b : Bool) → facet_in (slice_get nodes n) ≡ k → is_id f k ≡ b → inputs_of nodes f (n ∷ rest) ≡ cond b (n ∷ inputs_of nodes f rest) (inputs_of nodes f rest)
  inputs-here k true e q = let w : is_id f (facet_in (slice_get nodes n)) ≡ true = ap (is_id f) e ∙ q in rw w refl
  inputs-here k false e q = let w : is_id f (facet_in (slice_get nodes n)) ≡ false = ap (is_id f) e ∙ q in rw w refl

  -- one more node is placed
  pub placed-one : (lists : List (List ℕ)) (k : Option ℕ) → facet_in (slice_get nodes n) ≡ k → f < length lists → get_or (placed lists k n) f [] ++ inputs_of nodes f rest ≡ get_or lists f [] ++ inputs_of nodes f (n ∷ rest)
  placed-one lists None e lt = ap (λ (ns : List ℕ). get_or lists f [] ++ ns) (sym (inputs-here None false e refl))
  placed-one lists (Some g) e lt =
      ⊎_elim
      (λ (q : f ≡ g). let here : get_or (placed lists (Some g) n) f [] ≡ get_or lists f [] ++ n ∷ [] = rw q (placed-same lists g n (subst (λ (x : ℕ). x < length lists) q lt)) in
      ap (λ (ns : List ℕ). ns ++ inputs_of nodes f rest) here ∙ append_assoc (get_or lists f []) (n ∷ []) (inputs_of nodes f rest)
      ∙ ap (λ (ns : List ℕ). get_or lists f [] ++ ns) (sym (inputs-here (Some g) true e (eq-eqb f g q))))
      (λ (ne : f ≢ g). ap (λ (ns : List ℕ). ns ++ inputs_of nodes f rest) (placed-other lists g n f ne) ∙ ap (λ (ns : List ℕ). get_or lists f [] ++ ns) (sym (inputs-here (Some g) false e (ne_eqb f g ne))))
      (cases_eq f g)

  field-here : (k : Option ℕ) (b : Bool) → field_in (slice_get nodes n) ≡ k → is_id f k ≡ b → node_of_field nodes f (n ∷ rest) ≡ cond b (Some n) (node_of_field nodes f rest)
  field-here k true e q = let w : is_id f (field_in (slice_get nodes n)) ≡ true = ap (is_id f) e ∙ q in rw w refl
  field-here k false e q = let w : is_id f (field_in (slice_get nodes n)) ≡ false = ap (is_id f) e ∙ q in rw w refl

  -- one more node is noted
  pub noted-one : (found : List (Option ℕ)) (k : Option ℕ) → field_in (slice_get nodes n) ≡ k → f < length found → option_or (get_or (noted found k n) f None) (node_of_field nodes f rest) ≡ option_or (get_or found f None) (node_of_field nodes f (n ∷ rest))
  noted-one found None e lt = ap (option_or (get_or found f None)) (sym (field-here None false e refl))
  noted-one found (Some g) e lt =
      ⊎_elim
      (λ (q : f ≡ g). let here : get_or (noted found (Some g) n) f None ≡ Some (unwrap_or (get_or found f None) n) = rw q (noted-same found g n (subst (λ (x : ℕ). x < length found) q lt)) in
      ap (λ (o : Option ℕ). option_or o (node_of_field nodes f rest)) here ∙ first-of (get_or found f None) n (node_of_field nodes f rest)
      ∙ ap (option_or (get_or found f None)) (sym (field-here (Some g) true e (eq-eqb f g q))))
      (λ (ne : f ≢ g). ap (λ (o : Option ℕ). option_or o (node_of_field nodes f rest)) (noted-other found g n f ne) ∙ ap (option_or (get_or found f None)) (sym (field-here (Some g) false e (ne_eqb f g ne))))
      (cases_eq f g)

-- a list that has the right element at each place
pub lists-are : {X : Type 0} (g : ℕ → X) (d : X) (n i : ℕ) (xs : List X) → length xs ≡ n → ((f : ℕ) → f < n → get_or xs f d ≡ g (i + f)) → xs ≡ map g (range_with_len i n)
lists-are g d zero i [] len at = refl
lists-are g d zero i (x ∷ xs) len at = absurd (omega (arith, len))
lists-are g d (suc n) i [] len at = absurd (omega (arith, len))
lists-are {X} g d (suc n) i (x ∷ xs) len at =
    let first : x ≡ g i = at 0 (omega arith) ∙ ap g (omega arith) in
    let rest : xs ≡ map g (range_with_len (i + 1) n) = lists-are g d n (i + 1) xs (omega (arith, len)) (λ f lt. at (suc f) (omega (arith, lt)) ∙ ap g (omega arith)) in
    ap (λ (y : X). y ∷ xs) first ∙ ap (λ (ys : List X). g i ∷ ys) rest

-- nothing is left of a list that was read
pub end-at : {X : Type 0} (xs : List X) (i : ℕ) → length xs ≤ i → drop i xs ≡ []
end-at [] zero le = refl
end-at [] (suc i) le = refl
end-at (x ∷ xs) zero le = absurd (omega (arith, le))
end-at (x ∷ xs) (suc i) le = end-at xs i (omega (arith, le))

pub numbers-length : {X : Type 0} (g : ℕ → X) (i n : ℕ) → length (map g (range_with_len i n)) ≡ n
numbers-length g i zero = refl
numbers-length g i (suc n) = let ih = numbers-length g (i + 1) n in omega (arith, ih)
