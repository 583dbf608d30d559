use Rattle.std.proofs.Common.{◌≡◌, ◌∙◌, ℕ, List, [], ◌∷◌, ◌++◌, Bool, true, false, eqb, fold, Option, None, Some, refl, sym, ap, subst, ⊎_elim, inl, inr, arith, eq-eqb}
use Rattle.std.proofs.lemmas.Bool.{cases_Bool, eqb-true, or_cases, true≢false}
use Rattle.std.proofs.lemmas.List.Folds.{list_any-append}
use Rattle.std.proofs.lemmas.List.Sums.{fold-append}
use Rattle.std.proofs.lemmas.Grind.{flat_map-append}
use Rattle.std.specs.Option.{option_map, unwrap_or}
use Rattle.std.specs.List.{list_any, AllByRecursion}
use Rattle.ext_tree.specs.declared.visit.Visit.{Visit}
use Rattle.ext_tree.specs.Tree.{Tree}
use Rattle.ext_tree.specs.Unfolding.{Occurrence, compartment_of, is_slot_of, stands_on}
use Rattle.ext_tree.specs.Refusal.{first_met, refused, refused_as, meet, meet_as, refusal_after, met_after}
use Rattle.ext_tree.specs.Flat.{visit_of, is_leaf, leaf, leaves, has_level, node_of, at_level}
use Rattle.ext_tree.specs.Taking.{take_in, take_level, flat}
use Rattle.id_lists.specs.Members.{In}
use Rattle.ext_tree.specs.Walking.{Reaches, LeadsTo, IsCounted, IsClosed}
use Rattle.ext_tree.proofs.Enough.{weaker}
use Rattle.ext_tree.proofs.Done.{all-in, all-flat, no_circle, IsKnown}

-- what changes nothing in what a walk has met
pub record IsSpent (t : Tree) (met : List ℕ) (vs : List Visit) (o : Occurrence) : Type 0 where
  pub passes : refused t met o ≡ None
  pub met_same : meet t met o.node ≡ met
  pub leaf_in : is_leaf t o.node ≡ true → In (visit_of o) vs

any-all : {X : Type 0} (test : X → Bool) (P : X → Type 0) (xs : List X) → list_any test xs ≡ true → AllByRecursion P xs → (x : X) × (test x ≡ true) × P x
any-all test P [] e h = absurd (true≢false (sym e))
any-all test P (x ∷ xs) e h = ⊎_elim (λ d. (x, d, h.0)) (λ d. any-all test P xs d h.1) (or_cases (test x) (list_any test xs) e)

pub slot-in : (c : ℕ) (o : Option ℕ) → unwrap_or (option_map (eqb c) o) false ≡ true → o ≡ Some c
slot-in c None e = absurd (true≢false (sym e))
slot-in c (Some d) e = ap (λ (x : ℕ). Some x) (sym (eqb-true c d e))

pub some_injective : {X : Type 0} {x y : X} → Some x ≡ Some y → x ≡ y
some_injective e = cc

passes-off : (t : Tree) (met : List ℕ) (n : ℕ) (path : List ℕ) (c : ℕ) → stands_on t path (Some c) ≡ false → first_met t c met ≡ Some n → eqb n n ≡ true → refused_as t met n path (Some c) ≡ None
passes-off t met n path c off here one = rw off (rw here (rw one refl))

module _ (t : Tree) (met : List ℕ) (vs done : List Visit) (closed : IsClosed t done) (counted : AllByRecursion (IsCounted t met vs) done) where
  not-on-path : (o : Occurrence) (c : ℕ) → compartment_of t o.node ≡ Some c → IsKnown t met done o → stands_on t o.path (Some c) ≡ true → ⊥
  not-on-path o c is known on =
      let s = any-all (is_slot_of t c) (LeadsTo t met o.node) o.path on known.1 in
      let there : first_met t c met ≡ Some s.0 = s.2.0 c (slot-in c (compartment_of t s.0) s.1) in
      let here : first_met t c met ≡ Some o.node = (all-in (IsCounted t met vs) done counted (visit_of o) known.0).slot c is in
      let same : s.0 ≡ o.node = some_injective (sym there ∙ here) in
      no_circle t done closed o.node o.precedence known.0 (subst (λ (n : ℕ). Reaches t n o.node) same s.2.1)

  passes-in : (o : Occurrence) (k : Option ℕ) → compartment_of t o.node ≡ k → IsKnown t met done o → (refused_as t met o.node o.path k ≡ None) × (meet_as t met o.node k ≡ met)
  passes-in o None is known = (refl, refl)
  passes-in o (Some c) is known =
      let here : first_met t c met ≡ Some o.node = (all-in (IsCounted t met vs) done counted (visit_of o) known.0).slot c is in
      let one : eqb o.node o.node ≡ true = eq-eqb o.node o.node refl in
      (⊎_elim (λ e. absurd (not-on-path o c is known e)) (λ e. passes-off t met o.node o.path c e here one) (cases_Bool (stands_on t o.path (Some c))), rw here refl)

  pub spent : (o : Occurrence) → IsKnown t met done o → IsSpent t met vs o
  spent o known =
      let p = passes-in o (compartment_of t o.node) refl known in
      record { passes = p.0; met_same = p.1; leaf_in = (all-in (IsCounted t met vs) done counted (visit_of o) known.0).leaf }

-- what is spent hides no refusal
pub skip-refusal : (t : Tree) (met : List ℕ) (vs : List Visit) (os rest : List Occurrence) → AllByRecursion (IsSpent t met vs) os → refusal_after t met (os ++ rest) ≡ refusal_after t met rest
skip-refusal t met vs [] rest h = refl
skip-refusal t met vs (o ∷ os) rest h = rw (h.0.passes, h.0.met_same) (skip-refusal t met vs os rest h.1)

-- nor a slot that was not met
pub skip-met : (t : Tree) (met : List ℕ) (vs : List Visit) (os rest : List Occurrence) → AllByRecursion (IsSpent t met vs) os → met_after t met (os ++ rest) ≡ met_after t met rest
skip-met t met vs [] rest h = refl
skip-met t met vs (o ∷ os) rest h = ap (λ (ms : List ℕ). met_after t ms (os ++ rest)) h.0.met_same ∙ skip-met t met vs os rest h.1

leaf-spent : (t : Tree) (met : List ℕ) (vs : List Visit) (o : Occurrence) → IsSpent t met vs o → AllByRecursion (λ v. In v vs) (leaf t (visit_of o))
leaf-spent t met vs o h = ⊎_elim (λ e. rw e (h.leaf_in e, tt)) (λ e. rw e tt) (cases_Bool (is_leaf t o.node))

pub leaves-spent : (t : Tree) (met : List ℕ) (vs : List Visit) (os : List Occurrence) → AllByRecursion (IsSpent t met vs) os → AllByRecursion (λ v. In v vs) (leaves t os)
leaves-spent t met vs os h = all-flat (λ (o : Occurrence). leaf t (visit_of o)) (λ v. In v vs) os (weaker (IsSpent t met vs) (λ o. AllByRecursion (λ v. In v vs) (leaf t (visit_of o))) (leaf-spent t met vs) os h)

-- taking what was taken
abbrev Has : List ℕ → ℕ → Type 0
Has ns n = list_any (eqb n) ns ≡ true

has-end : (ns : List ℕ) (n : ℕ) → Has (ns ++ n ∷ []) n
has-end ns n = rw (list_any-append (eqb n) ns (n ∷ [])) (let e : eqb n n ≡ true = eq-eqb n n refl in rw e (grind arith))

has-more : (ns : List ℕ) (m n : ℕ) → Has ns m → Has (ns ++ n ∷ []) m
has-more ns m n h = rw (list_any-append (eqb m) ns (n ∷ []), h) refl

take-has : (taken : List ℕ) (n : ℕ) → Has (take_in taken n) n
take-has taken n = ⊎_elim (λ e. rw e e) (λ e. rw e (has-end taken n)) (cases_Bool (list_any (eqb n) taken))

take-keeps : (taken : List ℕ) (m n : ℕ) → Has taken m → Has (take_in taken n) m
take-keeps taken m n h = ⊎_elim (λ e. rw e h) (λ e. rw e (has-more taken m n h)) (cases_Bool (list_any (eqb n) taken))

fold-keeps : (taken ns : List ℕ) (m : ℕ) → Has taken m → Has (fold take_in taken ns) m
fold-keeps taken [] m h = h
fold-keeps taken (n ∷ ns) m h = fold-keeps (take_in taken n) ns m (take-keeps taken m n h)

fold-has : (taken ns : List ℕ) (m : ℕ) → In m ns → Has (fold take_in taken ns) m
fold-has taken [] m i = absurd i
fold-has taken (n ∷ ns) m i =
    ⊎_elim (λ e. rw e (fold-keeps (take_in taken n) ns n (take-has taken n))) (λ j. fold-has (take_in taken n) ns m j) i

fold-same : (taken ns : List ℕ) → AllByRecursion (Has taken) ns → fold take_in taken ns ≡ taken
fold-same taken [] h = refl
fold-same taken (n ∷ ns) h = rw h.0 (fold-same taken ns h.1)

pub level-append : (i : ℕ) (vs ws : List Visit) → at_level i (vs ++ ws) ≡ at_level i vs ++ at_level i ws
level-append i [] ws = refl
level-append i (v ∷ vs) ws = let ih = level-append i vs ws in ⊎_elim (λ e. rw e (rw ih refl)) (λ e. rw e ih) (cases_Bool (has_level i v))

level-in : (i : ℕ) (v : Visit) (vs : List Visit) → has_level i v ≡ true → In v vs → In v.node (at_level i vs)
level-in i v [] e h = h
level-in i v (w ∷ vs) e h =
    ⊎_elim
    (λ d. let q : has_level i w ≡ true = subst (λ (u : Visit). has_level i u ≡ true) d e in rw q (inl (ap node_of d)))
    (λ j. let ih = level-in i v vs e j in ⊎_elim (λ q. rw q (inr ih)) (λ q. rw q ih) (cases_Bool (has_level i w)))
    h

level-has : (i : ℕ) (taken : List ℕ) (vs ss : List Visit) → AllByRecursion (λ v. In v vs) ss → AllByRecursion (Has (fold take_in taken (at_level i vs))) (at_level i ss)
level-has i taken vs [] h = tt
level-has i taken vs (s ∷ ss) h =
    let ih = level-has i taken vs ss h.1 in
    ⊎_elim (λ e. rw e (fold-has taken (at_level i vs) s.node (level-in i s vs e h.0), ih)) (λ e. rw e ih) (cases_Bool (has_level i s))

level-skip : (vs ss rs : List Visit) → AllByRecursion (λ v. In v vs) ss → (taken : List ℕ) (i : ℕ) → take_level (vs ++ (ss ++ rs)) taken i ≡ take_level (vs ++ rs) taken i
level-skip vs ss rs h taken i =
    rw (level-append i vs (ss ++ rs), level-append i ss rs, level-append i vs rs, fold-append take_in taken (at_level i vs) (at_level i ss ++ at_level i rs), fold-append take_in (fold take_in taken (at_level i vs)) (at_level i ss) (at_level i rs), fold-same (fold take_in taken (at_level i vs)) (at_level i ss) (level-has i taken vs ss h), fold-append take_in taken (at_level i vs) (at_level i rs)) refl

fold-alike : {A B : Type 0} (f g : B → A → B) → ((b : B) (a : A) → f b a ≡ g b a) → (b : B) (xs : List A) → fold f b xs ≡ fold g b xs
fold-alike f g h b [] = refl
fold-alike f g h b (x ∷ xs) = rw (h b x) (fold-alike f g h (g b x) xs)

-- leaves that were met before change nothing in the flat order
pub flat-skip : (vs ss rs : List Visit) → AllByRecursion (λ v. In v vs) ss → flat (vs ++ (ss ++ rs)) ≡ flat (vs ++ rs)
flat-skip vs ss rs h = fold-alike (take_level (vs ++ (ss ++ rs))) (take_level (vs ++ rs)) (level-skip vs ss rs h) [] (0 ∷ 1 ∷ 2 ∷ 3 ∷ 4 ∷ [])

pub leaves-append : (t : Tree) (os ps : List Occurrence) → leaves t (os ++ ps) ≡ leaves t os ++ leaves t ps
leaves-append t os ps = flat_map-append (λ (o : Occurrence). leaf t (visit_of o)) os ps
