use Rattle.std.proofs.Common.{◌≡◌, ◌<◌, ◌≤◌, ◌≢◌, ◌+◌, ◌-◌, ◌^◌, ◌++◌, ◌∙◌, ℕ, List, [], ◌∷◌, Bool, true, false, cond, not, eqb, Option, None, Some, length, refl, sym, ⊎_elim, arith}
use Rattle.std.proofs.lemmas.Bool.{cases_Bool, cases_eq, ne_eqb, eq-eqb}
use Rattle.std.proofs.lemmas.List.Folds.{find-append}
use Rattle.std.specs.Option.{option_or}
use Rattle.ext_tree.specs.Tree.{Tree}
use Rattle.ext_tree.specs.Unfolding.{compartment_of, is_slot_of, stands_on}
use Rattle.ext_tree.specs.Refusal.{first_met}
use Rattle.ext_tree.specs.Marks.{kept_for, count_of, slots_on, AreOpen, AreFirsts}

none≢some : {X : Type 0} (x : X) → Some x ≡ None → ⊥
none≢some x e = cc

some_injective : {x y : ℕ} → Some x ≡ Some y → x ≡ y
some_injective e = cc

abbrev one_if : Bool → ℕ
one_if b = cond b 1 0

or-none : {X : Type 0} (o : Option X) → option_or o None ≡ o
or-none None = refl
or-none (Some x) = refl

module _ (t : Tree) where
  slot-is : (c n : ℕ) → compartment_of t n ≡ Some c → (d : ℕ) → is_slot_of t d n ≡ eqb d c
  slot-is c n e d = rw e refl

  slot-none : (n : ℕ) → compartment_of t n ≡ None → (d : ℕ) → is_slot_of t d n ≡ false
  slot-none n e d = rw e refl

  -- a slot more at the end of a path
  slots-append : (c : ℕ) (path : List ℕ) (s : ℕ) → slots_on t c (path ++ s ∷ []) ≡ slots_on t c path + one_if (is_slot_of t c s)
  slots-append c [] s = omega arith
  slots-append c (p ∷ path) s = let ih = slots-append c path s in omega (arith, ih)

  pub slots-within : (c : ℕ) (path : List ℕ) → slots_on t c path ≤ length path
  slots-within c [] = omega arith
  slots-within c (p ∷ path) = let ih = slots-within c path in ⊎_elim (λ e. rw e (omega (arith, ih))) (λ e. rw e (omega (arith, ih))) (cases_Bool (is_slot_of t c p))

  -- a compartment stands on a path where a slot of it does
  pub slots-stand : (c : ℕ) (path : List ℕ) → not (eqb (slots_on t c path) 0) ≡ stands_on t path (Some c)
  slots-stand c [] = refl
  slots-stand c (p ∷ path) =
      ⊎_elim
      (λ (e : is_slot_of t c p ≡ true). let z : eqb (1 + slots_on t c path) 0 ≡ false = ne_eqb (1 + slots_on t c path) 0 (λ q. omega (arith, q)) in rw e (rw z refl))
      (λ (e : is_slot_of t c p ≡ false). let z : 0 + slots_on t c path ≡ slots_on t c path = omega arith in rw e (rw z (slots-stand c path)))
      (cases_Bool (is_slot_of t c p))

  -- a slot is entered
  module _ (path : List ℕ) (counts counts' : List (ℕ × ℕ)) (n c : ℕ) (is : compartment_of t n ≡ Some c) where
    pub opens : AreOpen t path counts → count_of counts' c ≡ count_of counts c + 1 → ((d : ℕ) → d ≢ c → count_of counts' d ≡ count_of counts d) → AreOpen t (path ++ n ∷ []) counts'
    opens h here others d =
        let s = slots-append d path n in let k = h d in
        ⊎_elim
        (λ (q : d ≡ c). let one : one_if (is_slot_of t d n) ≡ 1 = rw (slot-is c n is d, eq-eqb d c q) refl in
        let w : count_of counts' d ≡ count_of counts d + 1 = rw q here in
        omega (arith, one, s, k, w))
        (λ (ne : d ≢ c). let z : one_if (is_slot_of t d n) ≡ 0 = rw (slot-is c n is d, ne_eqb d c ne) refl in
        let w = others d ne in
        omega (arith, z, s, k, w))
        (cases_eq d c)

    -- a slot is left
    pub closes : AreOpen t (path ++ n ∷ []) counts → count_of counts' c ≡ count_of counts c - 1 → ((d : ℕ) → d ≢ c → count_of counts' d ≡ count_of counts d) → AreOpen t path counts'
    closes h here others d =
        let s = slots-append d path n in let k = h d in
        ⊎_elim
        (λ (q : d ≡ c). let one : one_if (is_slot_of t d n) ≡ 1 = rw (slot-is c n is d, eq-eqb d c q) refl in
        let w : count_of counts' d ≡ count_of counts d - 1 = rw q here in
        omega (arith, one, s, k, w))
        (λ (ne : d ≢ c). let z : one_if (is_slot_of t d n) ≡ 0 = rw (slot-is c n is d, ne_eqb d c ne) refl in
        let w = others d ne in
        omega (arith, z, s, k, w))
        (cases_eq d c)

    pub opened : AreOpen t (path ++ n ∷ []) counts → 0 < count_of counts c
    opened h =
        let s = slots-append c path n in let k = h c in
        let one : one_if (is_slot_of t c n) ≡ 1 = rw (slot-is c n is c, eq-eqb c c refl) refl in
        omega (arith, one, s, k)

  -- a node that is no slot is left
  pub closes-none : (path : List ℕ) (counts : List (ℕ × ℕ)) (n : ℕ) → compartment_of t n ≡ None → AreOpen t (path ++ n ∷ []) counts → AreOpen t path counts
  closes-none path counts n is h d = let z : one_if (is_slot_of t d n) ≡ 0 = rw (slot-none n is d) refl in let s = slots-append d path n in let k = h d in omega (arith, z, s, k)

  pub small : (path : List ℕ) (counts : List (ℕ × ℕ)) (c : ℕ) → length path < 2 ^ 63 → AreOpen t path counts → count_of counts c + 1 < 2 ^ 64
  small path counts c fits h = let w = slots-within c path in let k = h c in omega (arith, w, k, fits)

  -- a slot is met first of its compartment
  pub meets : (met : List ℕ) (firsts firsts' : List (ℕ × ℕ)) (n c : ℕ) → compartment_of t n ≡ Some c → first_met t c met ≡ None → AreFirsts t met firsts
      → kept_for firsts' c ≡ Some n → ((d : ℕ) → d ≢ c → kept_for firsts' d ≡ kept_for firsts d) → AreFirsts t (met ++ n ∷ []) firsts'
  meets met firsts firsts' n c is none h here others d =
      ⊎_elim
      (λ (q : d ≡ c). let slot : is_slot_of t c n ≡ true = slot-is c n is c ∙ eq-eqb c c refl in
      rw q (here ∙ sym (find-append (is_slot_of t c) met (n ∷ []) ∙ rw (none, slot) refl)))
      (λ (ne : d ≢ c). let off : is_slot_of t d n ≡ false = slot-is c n is d ∙ ne_eqb d c ne in
      others d ne ∙ h d ∙ sym (find-append (is_slot_of t d) met (n ∷ []) ∙ rw off (or-none (first_met t d met))))
      (cases_eq d c)
