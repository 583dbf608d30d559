-- The circle of a graph is the one that the function finds, and where there is an order it finds none.
use Rattle.std.proofs.Common.{◌≡◌, ◌⊎◌, ◌<◌, ◌≤◌, ◌+◌, ◌-◌, ◌++◌, ◌∙◌, ℕ, zero, suc, List, [], ◌∷◌, Bool, true, false, not, eqb, length, reverse, fold, filter, find, min, Some, None, refl, sym, ap, subst, ⊎_elim, inl, inr, arith, append_assoc}
use Rattle.std.proofs.lemmas.Bool.{cases_Bool, cases_lt, eq-eqb, ne_eqb}
use Rattle.std.proofs.lemmas.List.{append-nil}
use Rattle.std.specs.List.{AllByRecursion, range_with_len}
use Rattle.id_lists.specs.Members.{In}
use Rattle.id_lists.specs.Least.{lesser, least}
use Rattle.dep_graph.specs.declared.edge.Edge.{Edge}
use Rattle.dep_graph.specs.Order.{IsEdge, DependsOn, IsOrder, IsFirstStuck, IsNext, IsChain, AreDistinct, IsCircle}
use Rattle.dep_graph.specs.Counting.{has}
use Rattle.dep_graph.proofs.Members.{in-end, in-reverse}
use Rattle.dep_graph.proofs.Told.{has-in, in-has}
use Rattle.dep_graph.proofs.Stuck.{edge-within}
use Rattle.resolution.specs.Circles.{dependencies_of, is_stuck, first_stuck, next_stuck, from_visit, circle_after, circle_of}
use Rattle.resolution.proofs.Rounds.{in-filter, from-filter, in-dependencies, from-dependencies, distinct-within, can-order, stuck-from, is-stuck}

-- the least of a list is one of it that is no greater than any
fold-least : (ns : List ℕ) (m d : ℕ) → (m ≡ d) ⊎ In d ns → d ≤ m → ((u : ℕ) → In u ns → d ≤ u) → fold lesser (Some m) ns ≡ Some d
fold-least [] m d h le all = ⊎_elim (λ e. ap Some e) (λ i. absurd i) h
fold-least (n ∷ ns) m d h le all =
    let at : d ≤ n = all n (inl refl) in
    fold-least ns (min m n) d
    (⊎_elim (λ (e : m ≡ d). inl (omega (arith, e, at))) (λ i. ⊎_elim (λ (e : d ≡ n). inl (omega (arith, e, le))) (λ j. inr j) i) h)
    (omega (arith, le, at)) (λ u i. all u (inr i))

pub least-is : (ns : List ℕ) (d : ℕ) → In d ns → ((u : ℕ) → In u ns → d ≤ u) → least ns ≡ Some d
least-is [] d i all = absurd i
least-is (n ∷ ns) d i all = fold-least ns n d (⊎_elim (λ e. inl (sym e)) (λ j. inr j) i) (all n (inl refl)) (λ u j. all u (inr j))

-- the first of some numbers that passes
find-first : (p : ℕ → Bool) (n i v : ℕ) → p v ≡ true → i ≤ v → v < i + n → ((u : ℕ) → i ≤ u → u < v → p u ≡ false) → find p (range_with_len i n) ≡ Some v
find-first p zero i v h low high none = absurd (omega (arith, low, high))
find-first p (suc n) i v h low high none =
    ⊎_elim
    (λ (lt : i < v). rw (none i (omega arith) lt) (find-first p n (i + 1) v h (omega (arith, lt)) (omega (arith, high)) (λ u a b. none u (omega (arith, a)) b)))
    (λ (ge : v ≤ i). let same : i ≡ v = omega (arith, low, ge) in rw (subst (λ (x : ℕ). p x ≡ true) (sym same) h) (ap Some same))
    (cases_lt i v)

find-none : (p : ℕ → Bool) (n i : ℕ) → ((u : ℕ) → i ≤ u → u < i + n → p u ≡ false) → find p (range_with_len i n) ≡ None
find-none p zero i none = refl
find-none p (suc n) i none = rw (none i (omega arith) (omega arith)) (find-none p n (i + 1) (λ u a b. none u (omega (arith, a)) (omega (arith, b))))

-- first of a chain that ends before a vertex
abbrev first-of : List ℕ → ℕ → ℕ
first-of [] last = last
first-of (v ∷ vs) last = v

chain-head : (es : List Edge) (v : ℕ) (vs : List ℕ) (last : ℕ) → IsChain es (v ∷ vs) last → IsNext es v (first-of vs last)
chain-head es v [] last c = c
chain-head es v (w ∷ vs) last c = c.0

chain-tail : (es : List Edge) (v : ℕ) (vs : List ℕ) (last : ℕ) → IsChain es (v ∷ vs) last → IsChain es vs last
chain-tail es v [] last c = tt
chain-tail es v (w ∷ vs) last c = c.1

-- steps: one for each of a list, and more
abbrev steps-over : List ℕ → ℕ → ℕ
steps-over [] n = n
steps-over (v ∷ vs) n = suc (steps-over vs n)

steps-are : (vs : List ℕ) (n : ℕ) → steps-over vs n ≡ length vs + n
steps-are [] n = omega arith
steps-are (v ∷ vs) n = let ih = steps-are vs n in omega (arith, ih)

distinct-from : (pre : List ℕ) (v : ℕ) (vs : List ℕ) → AreDistinct (pre ++ v ∷ vs) → In v pre → ⊥
distinct-from [] v vs d i = i
distinct-from (u ∷ pre) v vs d i = ⊎_elim (λ e. d.0 (in-end pre (v ∷ vs) u (inl (sym e)))) (λ j. distinct-from pre v vs d.1 j) i

not-has : (ns : List ℕ) (n : ℕ) → (In n ns → ⊥) → has ns n ≡ false
not-has ns n out = ⊎_elim (λ (q : has ns n ≡ true). absurd (out (in-has ns n q))) (λ q. q) (cases_Bool (has ns n))

-- the members run from the first visit
from-first : (before : List ℕ) (v : ℕ) (vs : List ℕ) → (In v before → ⊥) → from_visit v (before ++ v ∷ vs) ≡ v ∷ vs
from-first [] v vs out = let one : eqb v v ≡ true = eq-eqb v v refl in rw one refl
from-first (u ∷ before) v vs out = let no : eqb v u ≡ false = ne_eqb v u (λ e. out (inl e)) in rw no (from-first before v vs (λ i. out (inr i)))

module _ (count : ℕ) (es : List Edge) (edges : AllByRecursion (IsEdge count) es) where
  -- the least vertex that can't be ordered, and the least such dependency
  first-is : (v : ℕ) → IsFirstStuck count es v → first_stuck count es ≡ Some v
  first-is v f =
      find-first (is_stuck count es) count 0 v (is-stuck count es v f.is_stuck) (omega arith) (omega (arith, f.within))
      (λ u a lt. ⊎_elim
      (λ (q : is_stuck count es u ≡ true). let within : u < count = omega (arith, lt, f.within) in let le = f.least u (stuck-from count es edges u within q) within in absurd (omega (arith, lt, le)))
      (λ q. q) (cases_Bool (is_stuck count es u)))

  next-is : (v d : ℕ) → IsNext es v d → next_stuck count es v ≡ Some d
  next-is v d n =
      least-is (filter (is_stuck count es) (dependencies_of es v)) d
      (in-filter (is_stuck count es) (dependencies_of es v) d (in-dependencies es v d n.depends) (is-stuck count es d n.is_stuck))
      (λ u i. let r = from-filter (is_stuck count es) (dependencies_of es v) u i in
      let on : DependsOn es v u = from-dependencies es v u r.0 in
      n.least u (stuck-from count es edges u (edge-within count v u es edges on).dependency r.1) on)

  -- where there is an order, no vertex is stuck
  pub no-circle : (order : List ℕ) → IsOrder count es order → circle_of count es ≡ None
  unfolding circle_of
  no-circle order o =
      let none : first_stuck count es ≡ None = find-none (is_stuck count es) count 0 (λ u a lt. let within : u < count = omega (arith, lt) in
      ap not (can-order count es edges (reverse order) o.ordered u within (in-reverse order u (o.complete u within)))) in
      rw none refl

  -- the vertices of a chain are vertices of the graph
  chain-within : (vs : List ℕ) (last : ℕ) → IsChain es vs last → (v : ℕ) → In v vs → v < count
  chain-within [] last c v i = absurd i
  chain-within (u ∷ vs) last c v i =
      ⊎_elim
      (λ e. let n = chain-head es u vs last c in subst (λ (x : ℕ). x < count) (sym e) (edge-within count u (first-of vs last) es edges n.depends).vertex)
      (λ j. chain-within vs last (chain-tail es u vs last c) v j)
      i

  -- the walk goes along a chain of distinct vertices
  walks : (rest before : List ℕ) (last steps : ℕ) → AreDistinct (before ++ rest) → IsChain es rest last
      → circle_after count es (steps-over rest steps) before (Some (first-of rest last)) ≡ circle_after count es steps (before ++ rest) (Some last)
  walks [] before last steps d c = ap (λ (vs : List ℕ). circle_after count es steps vs (Some last)) (sym (append-nil before))
  walks (v ∷ rest) before last steps d c =
      let same : (before ++ v ∷ []) ++ rest ≡ before ++ v ∷ rest = append_assoc before (v ∷ []) rest in
      rw (not-has before v (distinct-from before v rest d), next-is v (first-of rest last) (chain-head es v rest last c))
      (walks rest (before ++ v ∷ []) last steps (subst AreDistinct (sym same) d) (chain-tail es v rest last c)
      ∙ ap (λ (vs : List ℕ). circle_after count es steps vs (Some last)) same)

  closes : (before members others : List ℕ) (v steps : ℕ) → members ≡ v ∷ others → AreDistinct (before ++ members) → circle_after count es (suc steps) (before ++ members) (Some v) ≡ Some members
  closes before members others v steps is d =
      let there : In v (before ++ members) = in-end before members v (rw is (inl refl)) in
      let from : from_visit v (before ++ members) ≡ members = rw is (from-first before v others (distinct-from before v others (subst (λ (vs : List ℕ). AreDistinct (before ++ vs)) is d))) in
      rw (has-in (before ++ members) v there, from) refl

  -- a circle is the one that is found
  pub the-circle : (members : List ℕ) → IsCircle count es members → circle_of count es ≡ Some members
  unfolding circle_of
  the-circle members c =
      let path : List ℕ = c.before ++ members in
      let chain : IsChain es path c.first_member = c.chain in
      let short : length path ≤ count = distinct-within count path c.distinct (chain-within path c.first_member chain) in
      let begins : first-of path c.first_member ≡ c.first = ap (λ (vs : List ℕ). first-of vs c.first_member) c.walk_is in
      let steps : suc count ≡ steps-over path (suc (count - length path)) = omega (arith, short, steps-are path (suc (count - length path))) in
      ap (circle_after count es (suc count) []) (first-is c.first c.starts ∙ ap Some (sym begins))
      ∙ ap (λ (n : ℕ). circle_after count es n [] (Some (first-of path c.first_member))) steps
      ∙ walks path [] c.first_member (suc (count - length path)) c.distinct chain
      ∙ closes c.before members c.other_members c.first_member (count - length path) c.members_are c.distinct
