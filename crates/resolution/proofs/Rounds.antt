-- What can be ordered within as many rounds as there are vertices is what stands in an ordered list.
use Rattle.std.proofs.Common.{◌≡◌, ◌<◌, ◌≤◌, ◌∙◌, ℕ, zero, suc, List, [], ◌∷◌, Bool, true, false, cond, not, eqb, nat_lt, map, filter, length, refl, sym, ap, subst, ⊎_elim, inl, inr, arith}
use Rattle.std.proofs.lemmas.Bool.{cases_Bool, cases_eq, eq-eqb, eqb-true, ne_eqb, true≢false, and_parts, and_from, lt-ltb, ltb-true}
use Rattle.std.proofs.lemmas.Map.Steps.{length-le_from_distinct_below}
use Rattle.std.specs.List.{list_all, AllByRecursion, IsDistinct}
use Rattle.id_lists.specs.Members.{In}
use Rattle.dep_graph.specs.declared.edge.Edge.{Edge}
use Rattle.dep_graph.specs.Order.{IsEdge, edge, DependsOn, IsOrdered, IsStuck, AreDistinct}
use Rattle.dep_graph.specs.Counting.{has}
use Rattle.dep_graph.proofs.Told.{has-in, in-has}
use Rattle.dep_graph.proofs.Stuck.{edge-within}
use Rattle.resolution.specs.Circles.{dependencies_of, can_order, is_stuck}

-- members of a filter
pub in-filter : (p : ℕ → Bool) (ns : List ℕ) (n : ℕ) → In n ns → p n ≡ true → In n (filter p ns)
in-filter p [] n i e = absurd i
in-filter p (m ∷ ns) n i e =
    ⊎_elim
    (λ q. let here : p m ≡ true = subst (λ (x : ℕ). p x ≡ true) q e in rw here (inl q))
    (λ j. let ih = in-filter p ns n j e in ⊎_elim (λ (q : p m ≡ true). rw q (inr ih)) (λ (q : p m ≡ false). rw q ih) (cases_Bool (p m)))
    i

pub from-filter : (p : ℕ → Bool) (ns : List ℕ) (n : ℕ) → In n (filter p ns) → In n ns × (p n ≡ true)
from-filter p [] n i = absurd i
from-filter p (m ∷ ns) n i =
    ⊎_elim
    (λ (q : p m ≡ true). ⊎_elim
    (λ (e : n ≡ m). (inl e, subst (λ (x : ℕ). p x ≡ true) (sym e) q))
    (λ (j : In n (filter p ns)). let r = from-filter p ns n j in (inr r.0, r.1))
    (subst (λ (b : Bool). In n (cond b (m ∷ filter p ns) (filter p ns))) q i))
    (λ (q : p m ≡ false). let r = from-filter p ns n (subst (λ (b : Bool). In n (cond b (m ∷ filter p ns) (filter p ns))) q i) in (inr r.0, r.1))
    (cases_Bool (p m))

-- tests of all members
pub all-pass : (p : ℕ → Bool) (ns : List ℕ) → ((n : ℕ) → In n ns → p n ≡ true) → list_all p ns ≡ true
all-pass p [] h = refl
all-pass p (n ∷ ns) h = and_from (p n) (list_all p ns) (h n (inl refl)) (all-pass p ns (λ m i. h m (inr i)))

pub pass-in : (p : ℕ → Bool) (ns : List ℕ) → list_all p ns ≡ true → (n : ℕ) → In n ns → p n ≡ true
pass-in p [] h n i = absurd i
pass-in p (m ∷ ns) h n i =
    let both = and_parts (p m) (list_all p ns) h in
    ⊎_elim (λ q. subst (λ (x : ℕ). p x ≡ true) (sym q) both.0) (λ j. pass-in p ns both.1 n j) i

-- the dependencies of a vertex are what it depends on
pub in-dependencies : (es : List Edge) (v d : ℕ) → DependsOn es v d → In d (dependencies_of es v)
in-dependencies [] v d i = absurd i
in-dependencies (e ∷ es) v d i =
    ⊎_elim
    (λ q. let one : eqb e.vertex v ≡ true = eq-eqb e.vertex v (sym (ap (λ (x : Edge). x.vertex) q)) in rw one (inl (ap (λ (x : Edge). x.dependency) q)))
    (λ j. let ih = in-dependencies es v d j in ⊎_elim (λ (q : eqb e.vertex v ≡ true). rw q (inr ih)) (λ (q : eqb e.vertex v ≡ false). rw q ih) (cases_Bool (eqb e.vertex v)))
    i

pub from-dependencies : (es : List Edge) (v d : ℕ) → In d (dependencies_of es v) → DependsOn es v d
from-dependencies [] v d i = absurd i
from-dependencies (e ∷ es) v d i =
    ⊎_elim
    (λ (q : eqb e.vertex v ≡ true). ⊎_elim
    (λ (s : d ≡ e.dependency). inl (ap (λ (x : ℕ). edge x d) (sym (eqb-true e.vertex v q)) ∙ ap (edge e.vertex) s))
    (λ (j : In d (dependencies_of es v)). inr (from-dependencies es v d j))
    (subst (λ (b : Bool). In d (map (λ (x : Edge). x.dependency) (cond b (e ∷ filter (λ (x : Edge). eqb x.vertex v) es) (filter (λ (x : Edge). eqb x.vertex v) es)))) q i))
    (λ (q : eqb e.vertex v ≡ false). inr (from-dependencies es v d
    (subst (λ (b : Bool). In d (map (λ (x : Edge). x.dependency) (cond b (e ∷ filter (λ (x : Edge). eqb x.vertex v) es) (filter (λ (x : Edge). eqb x.vertex v) es)))) q i)))
    (cases_Bool (eqb e.vertex v))

-- more rounds order no less
one-more : (es : List Edge) (n v : ℕ) → can_order es n v ≡ true → can_order es (suc n) v ≡ true
one-more es zero v h = absurd (true≢false (sym h))
one-more es (suc n) v h =
    all-pass (can_order es (suc n)) (dependencies_of es v) (λ d i. one-more es n d (pass-in (can_order es n) (dependencies_of es v) h d i))

more-rounds : (es : List Edge) (m n v : ℕ) → n ≤ m → can_order es n v ≡ true → can_order es m v ≡ true
more-rounds es zero n v le h = let none : n ≡ zero = omega (arith, le) in subst (λ (k : ℕ). can_order es k v ≡ true) none h
more-rounds es (suc m) n v le h =
    ⊎_elim
    (λ (e : n ≡ suc m). subst (λ (k : ℕ). can_order es k v ≡ true) e h)
    (λ ne. one-more es m v (more-rounds es m n v (omega (arith, le, ne)) h))
    (cases_eq n (suc m))

-- grown: an ordered list with all of another and with some vertices
record Grown (es : List Edge) (vs ds : List ℕ) : Type 0 where
  whole : List ℕ
  ordered : IsOrdered es whole
  keeps : (u : ℕ) → In u vs → In u whole
  has_all : (d : ℕ) → In d ds → In d whole

module _ (es : List Edge) (rounds : ℕ) (one : (v : ℕ) → can_order es rounds v ≡ true → (vs : List ℕ) → IsOrdered es vs → Grown es vs (v ∷ [])) where
  grow-all : (ds : List ℕ) → ((d : ℕ) → In d ds → can_order es rounds d ≡ true) → (vs : List ℕ) → IsOrdered es vs → Grown es vs ds
  grow-all [] h vs o = record { whole = vs; ordered = o; keeps = λ u i. i; has_all = λ d i. absurd i }
  grow-all (d ∷ ds) h vs o =
      let g = one d (h d (inl refl)) vs o in
      let r = grow-all ds (λ u i. h u (inr i)) g.whole g.ordered in
      record {
        whole = r.whole;
        ordered = r.ordered;
        keeps = λ u i. r.keeps u (g.keeps u i);
        has_all = λ u i. ⊎_elim (λ e. r.keeps u (g.has_all u (inl e))) (λ j. r.has_all u j) i;
      }

-- what can be ordered stands in an ordered list
grow : (es : List Edge) (rounds v : ℕ) → can_order es rounds v ≡ true → (vs : List ℕ) → IsOrdered es vs → Grown es vs (v ∷ [])
grow es zero v h vs o = absurd (true≢false (sym h))
grow es (suc rounds) v h vs o =
    let g = grow-all es rounds (grow es rounds) (dependencies_of es v) (pass-in (can_order es rounds) (dependencies_of es v) h) vs o in
    ⊎_elim
    (λ (q : has g.whole v ≡ true). record {
      whole = g.whole;
      ordered = g.ordered;
      keeps = g.keeps;
      has_all = λ d i. ⊎_elim (λ e. subst (λ (x : ℕ). In x g.whole) (sym e) (in-has g.whole v q)) (λ j. absurd j) i;
    })
    (λ (q : has g.whole v ≡ false). record {
      whole = v ∷ g.whole;
      ordered = ((λ d i. g.has_all d (in-dependencies es v d i)), (λ i. true≢false (sym (has-in g.whole v i) ∙ q)), g.ordered);
      keeps = λ u i. inr (g.keeps u i);
      has_all = λ d i. ⊎_elim (λ e. inl e) (λ j. absurd j) i;
    })
    (cases_Bool (has g.whole v))

-- what stands in an ordered list can be ordered, within as many rounds as the list is long
can-be : (es : List Edge) (vs : List ℕ) → IsOrdered es vs → (v : ℕ) → In v vs → can_order es (length vs) v ≡ true
can-be es [] o v i = absurd i
can-be es (x ∷ xs) o v i =
    ⊎_elim
    (λ e. all-pass (can_order es (length xs)) (dependencies_of es v)
    (λ d j. can-be es xs o.2 d (o.0 d (from-dependencies es x d (subst (λ (u : ℕ). In d (dependencies_of es u)) e j)))))
    (λ j. one-more es (length xs) v (can-be es xs o.2 v j))
    i

-- distinct vertices less than a count are no more than it
apart : (v : ℕ) (vs : List ℕ) → (In v vs → ⊥) → AllByRecursion (λ (u : ℕ). eqb v u ≡ false) vs
apart v [] out = tt
apart v (u ∷ vs) out = (ne_eqb v u (λ e. out (inl e)), apart v vs (λ i. out (inr i)))

distinct-keys : (vs : List ℕ) → AreDistinct vs → IsDistinct eqb vs
unfolding IsDistinct
distinct-keys [] d = tt
distinct-keys (v ∷ vs) d = (apart v vs d.0, distinct-keys vs d.1)

pub distinct-within : (count : ℕ) (vs : List ℕ) → AreDistinct vs → ((v : ℕ) → In v vs → v < count) → length vs ≤ count
distinct-within count vs d within = length-le_from_distinct_below vs count (distinct-keys vs d) (λ q h. within q (in-has vs q h))

ordered-distinct : (es : List Edge) (vs : List ℕ) → IsOrdered es vs → AreDistinct vs
ordered-distinct es [] o = tt
ordered-distinct es (v ∷ vs) o = (o.1, ordered-distinct es vs o.2)

-- an ordered list without what is no vertex
abbrev inside : ℕ → List ℕ → List ℕ
inside count vs = filter (λ (v : ℕ). nat_lt v count) vs

into : (count : ℕ) (vs : List ℕ) (v : ℕ) → v < count → In v vs → In v (inside count vs)
into count vs v lt i = in-filter (λ (u : ℕ). nat_lt u count) vs v i (lt-ltb v count lt)

module _ (count : ℕ) (es : List Edge) (edges : AllByRecursion (IsEdge count) es) where
  ordered-inside : (vs : List ℕ) → IsOrdered es vs → IsOrdered es (inside count vs)
  ordered-inside [] o = tt
  ordered-inside (v ∷ vs) o =
      ⊎_elim
      (λ (q : nat_lt v count ≡ true). rw q (
        (λ d i. into count vs d (edge-within count v d es edges i).dependency (o.0 d i)),
        (λ i. o.1 (from-filter (λ (u : ℕ). nat_lt u count) vs v i).0),
        ordered-inside vs o.2,
      ))
      (λ (q : nat_lt v count ≡ false). rw q (ordered-inside vs o.2))
      (cases_Bool (nat_lt v count))

  -- a vertex that stands in an ordered list can be ordered
  pub can-order : (vs : List ℕ) → IsOrdered es vs → (v : ℕ) → v < count → In v vs → can_order es count v ≡ true
  can-order vs o v lt i =
      let ordered = ordered-inside vs o in
      let short : length (inside count vs) ≤ count =
      distinct-within count (inside count vs) (ordered-distinct es (inside count vs) ordered) (λ u j. ltb-true u count (from-filter (λ (x : ℕ). nat_lt x count) vs u j).1) in
      more-rounds es count (length (inside count vs)) v short (can-be es (inside count vs) ordered v (into count vs v lt i))

  -- the test and the relation say the same
  pub stuck-from : (v : ℕ) → v < count → is_stuck count es v ≡ true → IsStuck es v
  stuck-from v lt s vs o i = true≢false (sym s ∙ ap not (can-order vs o v lt i))

pub is-stuck : (count : ℕ) (es : List Edge) (v : ℕ) → IsStuck es v → is_stuck count es v ≡ true
is-stuck count es v s =
    ⊎_elim
    (λ (q : can_order es count v ≡ true). let g = grow es count v q [] tt in absurd (s g.whole g.ordered (g.has_all v (inl refl))))
    (λ (q : can_order es count v ≡ false). ap not q)
    (cases_Bool (can_order es count v))
