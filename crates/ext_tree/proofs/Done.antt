use Rattle.std.proofs.Common.{ℕ, zero, suc, List, [], ◌∷◌, ◌++◌, is_some, flat_map, refl, sym, subst, ⊎_elim, inl, inr}
use Rattle.std.proofs.lemmas.Bool.{cases_Bool}
use Rattle.std.specs.List.{AllByRecursion}
use Rattle.ext_tree.specs.declared.precedence.Precedence.{Precedence}
use Rattle.ext_tree.specs.declared.visit.Visit.{Visit}
use Rattle.ext_tree.specs.Tree.{Tree}
use Rattle.ext_tree.specs.Unfolding.{Occurrence, compartment_of, is_blocked, following, precedence_below, path_below, below, followed_by, unfolded}
use Rattle.ext_tree.specs.Flat.{visit_of}
use Rattle.id_lists.specs.Members.{In}
use Rattle.ext_tree.specs.Walking.{visit, visit_below, ReachesIn, Reaches, IsFirst, LeadsTo, IsPath, IsCounted, AreBelowDone, IsClosed}
use Rattle.ext_tree.proofs.Enough.{weaker, all-map}

pub all-append : {X : Type 0} (P : X → Type 0) (xs ys : List X) → AllByRecursion P xs → AllByRecursion P ys → AllByRecursion P (xs ++ ys)
all-append P [] ys h k = k
all-append P (x ∷ xs) ys h k = (h.0, all-append P xs ys h.1 k)

pub all-flat : {X Y : Type 0} (f : X → List Y) (P : Y → Type 0) (xs : List X) → AllByRecursion (λ x. AllByRecursion P (f x)) xs → AllByRecursion P (flat_map f xs)
all-flat f P [] h = h
all-flat f P (x ∷ xs) h = all-append P (f x) (flat_map f xs) h.0 (all-flat f P xs h.1)

pub all-in : {X : Type 0} (P : X → Type 0) (xs : List X) → AllByRecursion P xs → (x : X) → In x xs → P x
all-in P [] h x i = absurd i
all-in P (y ∷ xs) h x i = ⊎_elim (λ e. subst P (sym e) h.0) (λ j. all-in P xs h.1 x j) i

pub in-all : {X : Type 0} (P : X → Type 0) (xs : List X) → ((x : X) → In x xs → P x) → AllByRecursion P xs
in-all P [] h = tt
in-all P (y ∷ xs) h = (h y (inl refl), in-all P xs (λ x i. h x (inr i)))

-- what a node that was walked is followed by was walked
pub done-below : (t : Tree) (done : List Visit) → IsClosed t done → (v : Visit) → In v done → AreBelowDone t done v
done-below t [] closed v i = absurd i
done-below t (d ∷ done) closed v i =
    weaker (λ m. In (visit_below t v m) done) (λ m. In (visit_below t v m) (d ∷ done)) (λ m j. inr j) (following t v.node)
    (⊎_elim (λ e. subst (λ (u : Visit). AreBelowDone t done u) (sym e) closed.0) (λ j. done-below t done closed.1 v j) i)

-- so is all that is reached from it
reached : (t : Tree) (done : List Visit) → IsClosed t done → (k m n : ℕ) (p : Precedence) → In (visit m p) done → ReachesIn t k m n → (q : Precedence) × In (visit n q) done
reached t done closed zero m n p i r = (p, subst (λ (j : ℕ). In (visit j p) done) r i)
reached t done closed (suc k) m n p i r =
    reached t done closed k r.0 n (precedence_below t m p)
    (all-in (λ j. In (visit_below t (visit m p) j) done) (following t m) (done-below t done closed (visit m p) i) r.0 r.1) r.2

-- a node that was walked to its end is not reached from itself
pub no_circle : (t : Tree) (done : List Visit) → IsClosed t done → (n : ℕ) (p : Precedence) → In (visit n p) done → Reaches t n n → ⊥
no_circle t [] closed n p i r = i
no_circle t (d ∷ done) closed n p i r =
    ⊎_elim
    (λ e. let b : AreBelowDone t done (visit n p) = subst (λ (u : Visit). AreBelowDone t done u) (sym e) closed.0 in
    let first : In (visit_below t (visit n p) r.1.0) done = all-in (λ j. In (visit_below t (visit n p) j) done) (following t n) b r.1.0 r.1.1 in
    let again = reached t done closed.1 r.0 r.1.0 n (precedence_below t n p) first r.1.2 in
    no_circle t done closed.1 n again.0 again.1 r)
    (λ j. no_circle t done closed.1 n p j r)
    i

reaches-next : (t : Tree) (k m n j : ℕ) → ReachesIn t k m n → In j (following t n) → ReachesIn t (suc k) m j
reaches-next t zero m n j r i = (j, subst (λ (x : ℕ). In j (following t x)) (sym r) i, refl)
reaches-next t (suc k) m n j r i = (r.0, r.1, reaches-next t k r.0 n j r.2 i)

-- the path of what a node is followed by
pub path-below : (t : Tree) (met path : List ℕ) (n m : ℕ) → IsPath t met path n → IsFirst t met n → In m (following t n) → IsPath t met (path_below t n path) m
path-below t met path n m h first i =
    let up : IsPath t met path m = weaker (LeadsTo t met n) (LeadsTo t met m) (λ s l. (l.0, (suc l.1.0, reaches-next t (suc l.1.0) s n m l.1.1 i))) path h in
    ⊎_elim
    (λ e. rw e (all-append (LeadsTo t met m) path (n ∷ []) up ((first, (zero, (m, i, refl))), tt)))
    (λ e. rw e up)
    (cases_Bool (is_some (compartment_of t n)))

-- what is met in the unfolding of a node that was walked
abbrev pub IsKnown : Tree → List ℕ → List Visit → Occurrence → Type 0
IsKnown t met done o = In (visit_of o) done × IsPath t met o.path o.node

module _ (t : Tree) (met : List ℕ) (vs done : List Visit) (closed : IsClosed t done) (counted : AllByRecursion (IsCounted t met vs) done) where
  pub known : (k : ℕ) (o : Occurrence) → IsKnown t met done o → AllByRecursion (IsKnown t met done) (unfolded t k o)
  known zero o h = tt
  known (suc k) o h = (
    h,
    all-flat (unfolded t k) (IsKnown t met done) (followed_by t o)
        (⊎_elim (λ e. rw e tt)
        (λ e. rw e (all-map (below t o) (λ c. AllByRecursion (IsKnown t met done) (unfolded t k c)) (following t o.node)
        (in-all (λ m. AllByRecursion (IsKnown t met done) (unfolded t k (below t o m))) (following t o.node)
        (λ m i. known k (below t o m) (
          all-in (λ j. In (visit_below t (visit_of o) j) done) (following t o.node) (done-below t done closed (visit_of o) h.0) m i,
          path-below t met o.path o.node m h.1 (all-in (IsCounted t met vs) done counted (visit_of o) h.0).slot i,
        )))))
        (cases_Bool (is_blocked t o.node o.path))),
  )
