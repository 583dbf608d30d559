-- One section further in a walk over the sections of a set.
use Rattle.std.proofs.Common.{◌≡◌, ℕ, zero, suc, ◌+◌, ◌≤◌, ◌<◌, ◌^◌, false, List, [], ◌∷◌, ◌++◌, length, get_or, take, drop, refl, sym, ap, subst, ◌∙◌, append_assoc, append-nil, arith, length-take-le, length-drop, length-append}
use Rattle.std.proofs.lemmas.List.{drop_more, drop_all}
use Rattle.change_desc.specs.declared.section.Section.{Section}
use Rattle.change_desc.specs.declared.section.Section.TheVariants.{Keep, Replace}
use Rattle.change_desc.specs.Sections.{Texts, spelled, counted, is_blank, kind, joins, normal, apply, invert, inverted, measured, lengths, old_of, old_size, new_of, new_size, IsSet}
use Rattle.change_desc.proofs.Normal.{Laws, spelled_laws, counted_laws, InOrder, in_order, normal-in_order, normal-prefix, normal-normal}
use Rattle.change_desc.proofs.Merges.{old_size-lengths, new_size-lengths, old_size-normal}
use Rattle.change_desc.proofs.Weaves.{new_size-normal, new_size-append}
use Rattle.change_desc.proofs.Lengths.{spelled_sizes, normal-lengths}
use Rattle.change_desc.proofs.Turns.{is_set-turned}
use Rattle.change_set.specs.Walks.{given_by, turned_at}

-- the section that comes, and those after it
pub at_section : {T : Type 0} (s : List (Section T)) (i : ℕ) (x y : Section T) → i < length s → x ≡ get_or s i x → x ≡ y → drop i s ≡ y ∷ drop (i + 1) s
at_section s i x y l r e = drop_more s i x l ∙ (ap (λ z. z ∷ drop (i + 1) s) (sym r) ∙ ap (λ z. z ∷ drop (i + 1) s) e)

pub next_section : {T : Type 0} (s : List (Section T)) (i : ℕ) (x : Section T) → i < length s → x ≡ get_or s i x → drop i s ≡ x ∷ drop (i + 1) s
next_section s i x l r = drop_more s i x l ∙ ap (λ z. z ∷ drop (i + 1) s) (sym r)

pub next_item : {A : Type 0} (s : List A) (i : ℕ) (x : A) → i < length s → x ≡ get_or s i x → drop i s ≡ x ∷ drop (i + 1) s
next_item s i x l r = drop_more s i x l ∙ ap (λ z. z ∷ drop (i + 1) s) (sym r)

-- a list of sections with texts is a set exactly where their lengths are
module _ {T C : Type 0} (X : Texts T C) (L : Laws X) where
  kind-lengths : (x : Section T) → kind counted (measured X x) ≡ kind X x
  kind-lengths (Keep n) = refl
  kind-lengths (Replace zero t) = refl
  kind-lengths (Replace (suc n) t) = refl

  blank-lengths : (x : Section T) → is_blank counted (measured X x) ≡ is_blank X x
  blank-lengths (Keep n) = refl
  blank-lengths (Replace n t) = refl

  order-lengths : (s : List (Section T)) → InOrder counted counted_laws (lengths X s) → InOrder X L s
  order-lengths [] o = tt
  order-lengths (x ∷ []) o = (sym (blank-lengths x) ∙ o.0, tt, tt)
  order-lengths (x ∷ y ∷ s) o =
      (sym (blank-lengths x) ∙ o.0, subst (λ k. joins k (kind X y) ≡ false) (kind-lengths x) (subst (λ k. joins (kind counted (measured X x)) k ≡ false) (kind-lengths y) o.1), order-lengths (y ∷ s) o.2)

  pub is_set-texts : (s : List (Section T)) → IsSet counted (lengths X s) → IsSet X s
  is_set-texts s h = record {
    is_normal = normal-in_order X L s (order-lengths s (in_order counted counted_laws (lengths X s) h.is_normal));
    old_fits = subst (λ n. n < 2 ^ 32) (old_size-lengths X s) h.old_fits;
    new_fits = subst (λ n. n < 2 ^ 32) (new_size-lengths X s) h.new_fits;
  }

pub is_set-lengths : {C : Type 0} (s : List (Section (List C))) → IsSet spelled s → IsSet counted (lengths spelled s)
is_set-lengths s h = record {
  is_normal = sym (normal-lengths spelled spelled_sizes s) ∙ ap (lengths spelled) h.is_normal;
  old_fits = subst (λ n. n < 2 ^ 32) (sym (old_size-lengths spelled s)) h.old_fits;
  new_fits = subst (λ n. n < 2 ^ 32) (sym (new_size-lengths spelled s)) h.new_fits;
}

lengths-invert : {C : Type 0} (s : List (Section (List C))) (doc : List C) → old_size s ≡ length doc → lengths spelled (invert s doc) ≡ inverted (lengths spelled s)
lengths-invert [] doc h = refl
lengths-invert (Keep n ∷ s) doc h = ap (λ r. Keep n ∷ r) (lengths-invert s (drop n doc) (omega (arith, length-drop n doc)))
lengths-invert (Replace n t ∷ s) doc h =
    let e : length (take n doc) ≡ n = length-take-le n doc (omega arith) in
    ap (λ r. Replace (length t) (length (take n doc)) ∷ r) (lengths-invert s (drop n doc) (omega (arith, length-drop n doc))) ∙
    ap (λ m. Replace (length t) m ∷ inverted (lengths spelled s)) e

pub is_set-invert : {C : Type 0} (s : List (Section (List C))) (doc : List C) → IsSet spelled s → old_size s ≡ length doc → IsSet spelled (invert s doc)
is_set-invert s doc h e =
    is_set-texts spelled spelled_laws (invert s doc) (subst (IsSet counted) (sym (lengths-invert s doc e)) (is_set-turned (lengths spelled s) (is_set-lengths s h)))

old_size-append : {T : Type 0} (s t : List (Section T)) → old_size (s ++ t) ≡ old_size s + old_size t
old_size-append [] t = omega arith
old_size-append (x ∷ s) t = omega (arith, old_size-append s t)

-- one more section measured
pub measure-step : (d e : List (Section ℕ)) (x : Section ℕ) (rest all : List (Section ℕ)) → e ≡ normal counted (d ++ x ∷ []) → normal counted (d ++ x ∷ rest) ≡ all → normal counted (e ++ rest) ≡ all
measure-step d e x rest all h k =
    rw (h, normal-prefix counted counted_laws (d ++ x ∷ []) rest, append_assoc d (x ∷ []) rest) k

pub pushed-old : (d e : List (Section ℕ)) (x : Section ℕ) → e ≡ normal counted (d ++ x ∷ []) → old_size e ≡ old_size d + old_of x
pushed-old d e x h = ap old_size h ∙ (old_size-normal counted (d ++ x ∷ []) ∙ omega (arith, old_size-append d (x ∷ [])))

pub pushed-new : (d e : List (Section ℕ)) (x : Section ℕ) → e ≡ normal counted (d ++ x ∷ []) → new_size counted e ≡ new_size counted d + new_of counted x
pushed-new d e x h = ap (new_size counted) h ∙ (new_size-normal counted counted_laws (d ++ x ∷ []) ∙ omega (arith, new_size-append d (x ∷ [])))

pub fits-part : {C : Type 0} (chars stretch more : List C) (m rest all : ℕ) → more ≡ chars ++ stretch → length stretch ≡ m → length chars + (m + rest) ≡ all → length more + rest ≡ all
fits-part chars stretch more m rest all e l h = omega (arith, ap length e, length-append chars stretch)

pub length-part : {C : Type 0} (n at : ℕ) (doc : List C) → at + n ≤ length doc → length (take n (drop at doc)) ≡ n
length-part n at doc h = length-take-le n (drop at doc) (omega (arith, length-drop at doc))

pub pushed-normal : (d e : List (Section ℕ)) (x : Section ℕ) → e ≡ normal counted (d ++ x ∷ []) → normal counted e ≡ e
pushed-normal d e x h = rw h (normal-normal counted counted_laws (d ++ x ∷ []))

pub measured-old : {C : Type 0} (x : Section (List C)) → old_of (measured spelled x) ≡ old_of x
measured-old (Keep n) = refl
measured-old (Replace n t) = refl

pub measured-new : {C : Type 0} (x : Section (List C)) → new_of counted (measured spelled x) ≡ new_of spelled x
measured-new (Keep n) = refl
measured-new (Replace n t) = refl

pub measured-whole : {C : Type 0} (d : List (Section ℕ)) (s : List (Section (List C))) (i : ℕ) → length s ≤ i → normal counted d ≡ d →
    normal counted (d ++ lengths spelled (drop i s)) ≡ lengths spelled s → d ≡ lengths spelled s
measured-whole d s i l n h = sym n ∙ (ap (normal counted) (sym (append-nil d)) ∙ (ap (λ r. normal counted (d ++ lengths spelled r)) (sym (drop_all i s l)) ∙ h))

pub inverted-is : {C : Type 0} (s t : List (Section (List C))) (doc left : List C) (i : ℕ) → length s ≤ i → t ++ invert (drop i s) left ≡ invert s doc → t ≡ invert s doc
inverted-is s t doc left i l h =
    let n : drop i s ≡ [] = drop_all i s l in
    sym (append-nil t) ∙ (ap (λ r. t ++ invert r left) (sym n) ∙ h)

pub inverted-all : {C : Type 0} (s t : List (Section (List C))) (doc left : List C) (i : ℕ) → length s ≤ i →
    t ++ invert (drop i s) left ≡ invert s doc → IsSet spelled s → old_size s ≡ length doc → IsSet spelled t
inverted-all s t doc left i l h k e =
    subst (IsSet spelled) (sym (inverted-is s t doc left i l h)) (is_set-invert s doc k e)

-- one section over the rest of a text
pub apply-cons : {C : Type 0} (x : Section (List C)) (s : List (Section (List C))) (doc : List C) → apply (x ∷ s) doc ≡ given_by x doc ++ apply s (drop (old_of x) doc)
apply-cons (Keep n) s doc = refl
apply-cons (Replace n t) s doc = refl

pub invert-cons : {C : Type 0} (x : Section (List C)) (s : List (Section (List C))) (doc : List C) → invert (x ∷ s) doc ≡ turned_at doc x ∷ invert s (drop (old_of x) doc)
invert-cons (Keep n) s doc = refl
invert-cons (Replace n t) s doc = refl
