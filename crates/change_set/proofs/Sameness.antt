-- Lists of sections are the same exactly where they are equal.
use Rattle.change_desc.specs.Sections.{Sections}
use Rattle.std.proofs.Common.{◌≡◌, ◌≢◌, ◌↔◌, ℕ, Bool, true, false, ◌&&◌, eqb, List, [], ◌∷◌, length, IsTrue, refl, sym, ap, ◌∙◌}
use Rattle.std.proofs.lemmas.Bool.{and_parts, and_from, eqb-true, eq-eqb}
use Rattle.change_desc.specs.declared.section.Section.{Section}
use Rattle.change_desc.specs.declared.section.Section.TheVariants.{Keep, Replace}
use Rattle.change_set.specs.Same.{same_text, same_section, same_sections}

text-equal : (t u : List ℕ) → same_text t u ≡ true → t ≡ u
text-equal [] [] h = refl
text-equal [] (d ∷ u) h = cc
text-equal (c ∷ t) [] h = cc
text-equal (c ∷ t) (d ∷ u) h =
    let p : (eqb c d ≡ true) × (same_text t u ≡ true) = and_parts (eqb c d) (same_text t u) h in
    let e : c ≡ d = eqb-true c d p.0 in
    let f : t ≡ u = text-equal t u p.1 in
    cc

pub text-same : (t : List ℕ) → same_text t t ≡ true
text-same [] = refl
text-same (c ∷ t) = and_from (eqb c c) (same_text t t) (eq-eqb c c refl) (text-same t)

section-equal : (x y : Section (List ℕ)) → same_section x y ≡ true → x ≡ y
section-equal (Keep m) (Keep n) h = ap Keep (eqb-true m n h)
section-equal (Keep m) (Replace n u) h = cc
section-equal (Replace m t) (Keep n) h = cc
section-equal (Replace m t) (Replace n u) h =
    let p : (eqb m n ≡ true) × (same_text t u ≡ true) = and_parts (eqb m n) (same_text t u) h in
    let e : m ≡ n = eqb-true m n p.0 in
    let f : t ≡ u = text-equal t u p.1 in
    cc

section-same : (x : Section (List ℕ)) → same_section x x ≡ true
section-same (Keep n) = eq-eqb n n refl
section-same (Replace n t) = and_from (eqb n n) (same_text t t) (eq-eqb n n refl) (text-same t)

pub sections-equal : (s t : Sections) → same_sections s t ≡ true → s ≡ t
sections-equal [] [] h = refl
sections-equal [] (y ∷ t) h = cc
sections-equal (x ∷ s) [] h = cc
sections-equal (x ∷ s) (y ∷ t) h =
    let p : (same_section x y ≡ true) × (same_sections s t ≡ true) = and_parts (same_section x y) (same_sections s t) h in
    let e : x ≡ y = section-equal x y p.0 in
    let f : s ≡ t = sections-equal s t p.1 in
    cc

sections-same : (s : Sections) → same_sections s s ≡ true
sections-same [] = refl
sections-same (x ∷ s) = and_from (same_section x x) (same_sections s s) (section-same x) (sections-same s)

pub sections-iff : (s t : Sections) (b : Bool) → b ≡ same_sections s t → IsTrue b ↔ (s ≡ t)
sections-iff s t b h = ((λ e. sections-equal s t (sym h ∙ e)), (λ e. h ∙ (ap (λ r. same_sections s r) (sym e) ∙ sections-same s)))

-- a test of texts that tells whether they are equal
pub text-test : (t u : List ℕ) (b : Bool) → IsTrue b ↔ (t ≡ u) → b ≡ same_text t u
text-test t u true h = sym (ap (λ r. same_text t r) (sym (h.0 refl)) ∙ text-same t)
text-test t u false h = cases (same_text t u) refl
  where
    cases : (b : Bool) → same_text t u ≡ b → false ≡ b
    cases false e = refl
    cases true e = let f : false ≡ true = h.1 (text-equal t u e) in cc

pub lengths-differ : (s t : Sections) → length s ≢ length t → false ≡ same_sections s t
lengths-differ s t h = cases (same_sections s t) refl
  where
    cases : (b : Bool) → same_sections s t ≡ b → false ≡ b
    cases false e = refl
    cases true e = absurd (h (ap length (sections-equal s t e)))

pub same-step : (s t r q all : Sections) (x y : Section (List ℕ)) (b : Bool) → s ≡ x ∷ r → t ≡ y ∷ q → b ≡ same_section x y → same_sections s t ≡ (b && same_sections r q)
same-step s t r q all x y b e f h = rw (e, f, h) refl
