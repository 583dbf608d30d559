-- The normal form: what it Keeps, and that sections may be put after it one by one.
use Rattle.std.proofs.Common.{◌≡◌, ℕ, zero, suc, ◌+◌, ◌<◌, Bool, true, false, cond, ◌⊎◌, inl, inr, List, [], ◌∷◌, ◌++◌, refl, sym, ap, subst, ◌∙◌, append_assoc, append-nil, arith, add_assoc, length-append, zero-add, add-zero}
use Rattle.change_desc.specs.declared.section.Section.{Section}
use Rattle.change_desc.specs.declared.kind.Kind.{Kind}
use Rattle.change_desc.specs.declared.kind.Kind.TheVariants.{Keeps, Inserts, Deletes, Replaces}
use Rattle.change_desc.specs.declared.section.Section.TheVariants.{Keep, Replace}
use Rattle.change_desc.specs.Sections.{Texts, spelled, counted, is_empty_text, is_blank, is_zero, kind, joins, joined, put, normal}

-- what the lemmas ask of texts
pub record Laws {T C : Type 0} (X : Texts T C) : Type 0 where
  pub size-join : (t u : T) → X.size (X.join t u) ≡ X.size t + X.size u
  pub join-assoc : (t u v : T) → X.join (X.join t u) v ≡ X.join t (X.join u v)
  pub none-join : (t : T) → X.join X.none t ≡ t
  pub join-none : (t : T) → X.join t X.none ≡ t

pub spelled_laws : {C : Type 0} → Laws (spelled {C = C})
spelled_laws = record { size-join = length-append; join-assoc = append_assoc; none-join = λ t. refl; join-none = append-nil }

pub counted_laws : Laws counted
counted_laws = record { size-join = λ t u. refl; join-assoc = add_assoc; none-join = zero-add; join-none = add-zero }

is_zero-true : (n : ℕ) → is_zero n ≡ true → n ≡ 0
is_zero-true zero h = refl
is_zero-true (suc n) h = cc

is_zero-false : (n : ℕ) → is_zero n ≡ false → 0 < n
is_zero-false zero h = cc
is_zero-false (suc n) h = omega arith

is_zero-pos : (n : ℕ) → 0 < n → is_zero n ≡ false
is_zero-pos zero h = absurd (omega arith)
is_zero-pos (suc n) h = refl

joins-replaces : (k : Kind) → joins k Replaces ≡ false
joins-replaces Keeps = refl
joins-replaces Inserts = refl
joins-replaces Deletes = refl
joins-replaces Replaces = refl

same_kind : (j k : Kind) → joins j k ≡ true → j ≡ k
same_kind Keeps Keeps h = refl
same_kind Inserts Inserts h = refl
same_kind Deletes Deletes h = refl
same_kind Keeps Inserts h = cc
same_kind Keeps Deletes h = cc
same_kind Keeps Replaces h = cc
same_kind Inserts Keeps h = cc
same_kind Inserts Deletes h = cc
same_kind Inserts Replaces h = cc
same_kind Deletes Keeps h = cc
same_kind Deletes Inserts h = cc
same_kind Deletes Replaces h = cc
same_kind Replaces k h = cc

module _ {T C : Type 0} (X : Texts T C) (L : Laws X) where
  empty_join : (t u : T) → is_empty_text X t ≡ true → is_empty_text X u ≡ true → is_empty_text X (X.join t u) ≡ true
  empty_join t u h k =
      let s : X.size t ≡ 0 = is_zero-true (X.size t) h in
      let r : X.size u ≡ 0 = is_zero-true (X.size u) k in
      rw (L.size-join t u, s, r) refl

  nonempty_join : (t u : T) → is_empty_text X t ≡ false → is_empty_text X (X.join t u) ≡ false
  nonempty_join t u h = rw (L.size-join t u) (is_zero-pos (X.size t + X.size u) (omega (arith, is_zero-false (X.size t) h)))

  -- two sections that join
  pub data Together : Section T → Section T → Type 0 where
    both_keep : (m n : ℕ) → Together (Keep m) (Keep n)
    both_insert : (t u : T) → Together (Replace 0 t) (Replace 0 u)
    both_delete : (m n : ℕ) (t u : T) → is_empty_text X t ≡ true → is_empty_text X u ≡ true → Together (Replace (suc m) t) (Replace (suc n) u)

  both_empty : (a b : Bool) → joins (cond a Deletes Replaces) (cond b Deletes Replaces) ≡ true → (a ≡ true) × (b ≡ true)
  both_empty true true h = (refl, refl)
  both_empty true false h = cc
  both_empty false true h = cc
  both_empty false false h = cc

  apart : (k : Kind) (b : Bool) → (k ≡ Keeps) ⊎ (k ≡ Inserts) → joins k (cond b Deletes Replaces) ≡ true → ⊥
  apart Keeps true e h = cc
  apart Keeps false e h = cc
  apart Inserts true e h = cc
  apart Inserts false e h = cc
  apart Deletes b (inl e) h = cc
  apart Deletes b (inr e) h = cc
  apart Replaces b e h = cc

  apart_back : (k : Kind) (b : Bool) → (k ≡ Keeps) ⊎ (k ≡ Inserts) → joins (cond b Deletes Replaces) k ≡ true → ⊥
  apart_back Keeps true e h = cc
  apart_back Keeps false e h = cc
  apart_back Inserts true e h = cc
  apart_back Inserts false e h = cc
  apart_back Deletes b (inl e) h = cc
  apart_back Deletes b (inr e) h = cc
  apart_back Replaces b (inl e) h = cc
  apart_back Replaces b (inr e) h = cc

  pub together : (x y : Section T) → joins (kind X x) (kind X y) ≡ true → Together x y
  together (Keep m) (Keep n) h = both_keep m n
  together (Keep m) (Replace zero u) h = cc
  together (Keep m) (Replace (suc n) u) h = absurd (apart Keeps (is_empty_text X u) (inl refl) h)
  together (Replace zero t) (Keep n) h = cc
  together (Replace (suc m) t) (Keep n) h = absurd (apart_back Keeps (is_empty_text X t) (inl refl) h)
  together (Replace zero t) (Replace zero u) h = both_insert t u
  together (Replace zero t) (Replace (suc n) u) h = absurd (apart Inserts (is_empty_text X u) (inr refl) h)
  together (Replace (suc m) t) (Replace zero u) h = absurd (apart_back Inserts (is_empty_text X t) (inr refl) h)
  together (Replace (suc m) t) (Replace (suc n) u) h =
      let e : (is_empty_text X t ≡ true) × (is_empty_text X u ≡ true) = both_empty (is_empty_text X t) (is_empty_text X u) h in
      both_delete m n t u e.0 e.1

  -- a joined section is of the same kind
  kind-together : (x y : Section T) → Together x y → (kind X (joined X x y) ≡ kind X x) × (kind X x ≡ kind X y)
  kind-together x y (both_keep m n) = (refl, refl)
  kind-together x y (both_insert t u) = (refl, refl)
  kind-together x y (both_delete m n t u h k) =
      let e : suc m + suc n ≡ suc (m + suc n) = omega arith in
      (rw (e, empty_join t u h k, h) refl, rw (h, k) refl)

  pub kind-joined : (x y : Section T) → joins (kind X x) (kind X y) ≡ true → kind X (joined X x y) ≡ kind X x
  kind-joined x y h = (kind-together x y (together x y h)).0

  kind-same : (x y : Section T) → joins (kind X x) (kind X y) ≡ true → kind X x ≡ kind X y
  kind-same x y h = (kind-together x y (together x y h)).1

  not_blank-together : (x y : Section T) → Together x y → is_blank X x ≡ false → is_blank X (joined X x y) ≡ false
  not_blank-together x y (both_keep m n) b = is_zero-pos (m + n) (omega (arith, is_zero-false m b))
  not_blank-together x y (both_insert t u) b = nonempty_join t u b
  not_blank-together x y (both_delete m n t u h k) b = let e : suc m + suc n ≡ suc (m + suc n) = omega arith in rw e refl

  pub not_blank-joined : (x y : Section T) → joins (kind X x) (kind X y) ≡ true → is_blank X x ≡ false → is_blank X (joined X x y) ≡ false
  not_blank-joined x y h b = not_blank-together x y (together x y h) b

  joined-replaces : (l m n : ℕ) (t u v : T) → joined X (joined X (Replace l t) (Replace m u)) (Replace n v) ≡ joined X (Replace l t) (joined X (Replace m u) (Replace n v))
  joined-replaces l m n t u v = rw (add_assoc l m n, L.join-assoc t u v) refl

  assoc-together : (x y z : Section T) → Together x y → Together y z → joined X (joined X x y) z ≡ joined X x (joined X y z)
  assoc-together x y (Keep n) (both_keep l m) k = ap Keep (add_assoc l m n)
  assoc-together x y (Replace n v) (both_keep l m) k = refl
  assoc-together x y (Replace n v) (both_insert t u) k = joined-replaces 0 0 n t u v
  assoc-together x y (Keep n) (both_insert t u) k = refl
  assoc-together x y (Replace n v) (both_delete l m t u h j) k = joined-replaces (suc l) (suc m) n t u v
  assoc-together x y (Keep n) (both_delete l m t u h j) k = refl

  joined-assoc : (x y z : Section T) → joins (kind X x) (kind X y) ≡ true → joins (kind X y) (kind X z) ≡ true → joined X (joined X x y) z ≡ joined X x (joined X y z)
  joined-assoc x y z h k = assoc-together x y z (together x y h) (together y z k)

  -- sections of which none is blank and no two in a row join
  abbrev pub Apart : Section T → List (Section T) → Type 0
  Apart x [] = Unit {0}
  Apart x (y ∷ s) = joins (kind X x) (kind X y) ≡ false

  abbrev pub InOrder : List (Section T) → Type 0
  InOrder [] = Unit {0}
  InOrder (x ∷ s) = (is_blank X x ≡ false) × Apart x s × InOrder s

  put-apart : (x : Section T) (s : List (Section T)) → Apart x s → put X x s ≡ x ∷ s
  put-apart x [] a = refl
  put-apart x (y ∷ s) a = rw a refl

  pub normal-in_order : (s : List (Section T)) → InOrder s → normal X s ≡ s
  normal-in_order [] o = refl
  normal-in_order (x ∷ s) o = rw (o.0, normal-in_order s o.2) (put-apart x s o.1)

  -- what stands in for a section of the same kind is as far apart
  apart-kind : (x y : Section T) (s : List (Section T)) → kind X x ≡ kind X y → Apart y s → Apart x s
  apart-kind x y [] e a = tt
  apart-kind x y (z ∷ s) e a = rw e a

  in_order-put : (x : Section T) (s : List (Section T)) → is_blank X x ≡ false → InOrder s → InOrder (put X x s)
  in_order-put x [] b o = (b, tt, tt)
  in_order-put x (y ∷ s) b o = cases (joins (kind X x) (kind X y)) refl
    where
      cases : (j : Bool) → joins (kind X x) (kind X y) ≡ j → InOrder (cond j (joined X x y ∷ s) (x ∷ y ∷ s))
      cases true h = (not_blank-joined x y h b, apart-kind (joined X x y) y s (kind-joined x y h ∙ kind-same x y h) o.1, o.2)
      cases false h = (b, h, o)

  pub in_order-normal : (s : List (Section T)) → InOrder (normal X s)
  in_order-normal [] = tt
  in_order-normal (x ∷ s) = cases (is_blank X x) refl (in_order-normal s)
    where
      cases : (b : Bool) → is_blank X x ≡ b → InOrder (normal X s) → InOrder (cond b (normal X s) (put X x (normal X s)))
      cases true h o = o
      cases false h o = in_order-put x (normal X s) h o

  pub normal-normal : (s : List (Section T)) → normal X (normal X s) ≡ normal X s
  normal-normal s = normal-in_order (normal X s) (in_order-normal s)

  pub in_order : (s : List (Section T)) → normal X s ≡ s → InOrder s
  in_order s e = subst InOrder e (in_order-normal s)

  -- the tail may be put in normal form first, and the prefix too
  pub normal-back : (s t u : List (Section T)) → normal X t ≡ normal X u → normal X (s ++ t) ≡ normal X (s ++ u)
  normal-back [] t u e = e
  normal-back (x ∷ s) t u e = rw (normal-back s t u e) refl

  pub put-put : (x y : Section T) (r : List (Section T)) → joins (kind X x) (kind X y) ≡ true → InOrder r → put X (joined X x y) r ≡ put X x (put X y r)
  put-put x y [] h o = rw h refl
  put-put x y (z ∷ r) h o = cases (joins (kind X y) (kind X z)) refl
    where
      cases : (j : Bool) → joins (kind X y) (kind X z) ≡ j → put X (joined X x y) (z ∷ r) ≡ put X x (cond j (joined X y z ∷ r) (y ∷ z ∷ r))
      cases true k =
          let g : joins (kind X x) (kind X x) ≡ true = subst (λ (w : Kind). joins (kind X x) w ≡ true) (sym (kind-same x y h)) h in
          rw (kind-joined x y h, kind-same x y h, k, kind-joined y z k, ← (kind-same x y h), g, joined-assoc x y z h k) refl
      cases false k = rw (kind-joined x y h, h, kind-same x y h, k) refl

  normal-put : (x : Section T) (s t : List (Section T)) → is_blank X x ≡ false → InOrder s → normal X (put X x s ++ t) ≡ put X x (normal X (s ++ t))
  normal-put x [] t b o = rw b refl
  normal-put x (y ∷ s) t b o = cases (joins (kind X x) (kind X y)) refl
    where
      cases : (j : Bool) → joins (kind X x) (kind X y) ≡ j → normal X (cond j (joined X x y ∷ s) (x ∷ y ∷ s) ++ t) ≡ put X x (normal X (y ∷ s ++ t))
      cases true h = rw (not_blank-joined x y h b, o.0) (put-put x y (normal X (s ++ t)) h (in_order-normal (s ++ t)))
      cases false h = rw b refl

  pub normal-prefix : (s t : List (Section T)) → normal X (normal X s ++ t) ≡ normal X (s ++ t)
  normal-prefix [] t = refl
  normal-prefix (x ∷ s) t = cases (is_blank X x) refl (normal-prefix s t)
    where
      cases : (b : Bool) → is_blank X x ≡ b → normal X (normal X s ++ t) ≡ normal X (s ++ t) → normal X (cond b (normal X s) (put X x (normal X s)) ++ t) ≡ cond b (normal X (s ++ t)) (put X x (normal X (s ++ t)))
      cases true h e = e
      cases false h e = normal-put x (normal X s) t h (in_order-normal s) ∙ ap (put X x) e

  -- one more section after
  pub normal-blank : (s : List (Section T)) (x : Section T) → is_blank X x ≡ true → normal X (s ++ x ∷ []) ≡ normal X s
  normal-blank s x b = normal-back s (x ∷ []) [] (rw b refl) ∙ ap (normal X) (append-nil s)

  in_order-append : (s : List (Section T)) (x : Section T) (t : List (Section T)) → InOrder (s ++ x ∷ []) → InOrder (x ∷ t) → InOrder (s ++ x ∷ t)
  in_order-append [] x t o q = q
  in_order-append (y ∷ []) x t o q = (o.0, o.1, q)
  in_order-append (y ∷ z ∷ s) x t o q = (o.0, o.1, in_order-append (z ∷ s) x t o.2 q)

  in_order-last : (s : List (Section T)) (x y : Section T) → kind X y ≡ kind X x → is_blank X y ≡ false → InOrder (s ++ x ∷ []) → InOrder (s ++ y ∷ [])
  in_order-last [] x y e b o = (b, tt, tt)
  in_order-last (z ∷ []) x y e b o = (o.0, rw e o.1, (b, tt, tt))
  in_order-last (z ∷ w ∷ s) x y e b o = (o.0, o.1, in_order-last (w ∷ s) x y e b o.2)

  in_order-of-last : (s : List (Section T)) (x : Section T) → InOrder (s ++ x ∷ []) → is_blank X x ≡ false
  in_order-of-last [] x o = o.0
  in_order-of-last (z ∷ []) x o = o.2.0
  in_order-of-last (z ∷ w ∷ s) x o = in_order-of-last (w ∷ s) x o.2

  pub normal-apart : (s : List (Section T)) (x y : Section T) → normal X (s ++ x ∷ []) ≡ s ++ x ∷ [] → is_blank X y ≡ false → joins (kind X x) (kind X y) ≡ false →
      normal X (s ++ x ∷ [] ++ y ∷ []) ≡ s ++ x ∷ [] ++ y ∷ []
  normal-apart s x y e b j =
      let o : InOrder (s ++ x ∷ []) = in_order (s ++ x ∷ []) e in
      rw (append_assoc s (x ∷ []) (y ∷ []))
      (normal-in_order (s ++ x ∷ y ∷ []) (in_order-append s x (y ∷ []) o (in_order-of-last s x o, j, (b, tt, tt))))

  pub normal-joined : (s : List (Section T)) (x y : Section T) → normal X (s ++ x ∷ []) ≡ s ++ x ∷ [] → is_blank X y ≡ false → joins (kind X x) (kind X y) ≡ true →
      normal X (s ++ x ∷ [] ++ y ∷ []) ≡ s ++ joined X x y ∷ []
  normal-joined s x y e b j =
      let o : InOrder (s ++ x ∷ []) = in_order (s ++ x ∷ []) e in
      let n : is_blank X x ≡ false = in_order-of-last s x o in
      rw (append_assoc s (x ∷ []) (y ∷ []))
      (normal-back s (x ∷ y ∷ []) (joined X x y ∷ []) (rw (n, b, j, not_blank-joined x y j n) refl) ∙
      normal-in_order (s ++ joined X x y ∷ []) (in_order-last s x (joined X x y) (kind-joined x y j) (not_blank-joined x y j n) o))
