use Rattle.std.proofs.Common.{◌≡◌, ◌<◌, ◌+◌, ℕ, zero, suc, List, [], ◌∷◌, ◌++◌, true, false, nat_lt, All, Option, None, Some, slice_get, get_or, drop, length, flat_map, refl, ⊎_elim, arith, drop-cons, add-one}
use Rattle.std.proofs.lemmas.Bool.{cases_Bool, ltb-true}
use Rattle.std.specs.List.{AllByRecursion}
use Rattle.dep_graph.specs.Order.{IsEdge}
use Rattle.configuration.specs.declared.dependency.Dependency.{Dependency}
use Rattle.configuration.specs.declared.dependency.Dependency.TheVariants as dependency
use Rattle.configuration.specs.declared.facet_def.FacetDef.{FacetDef}
use Rattle.configuration.specs.declared.field_def.FieldDef.{FieldDef}
use Rattle.configuration.specs.declared.node_def.NodeDef.{NodeDef}
use Rattle.configuration.specs.Pairs.{read_pair, reads_of, reads_in, input_pairs, facet_pairs_from, field_pairs, field_pairs_from, pairs}

all-append : {X : Type 0} (P : X → Type 0) (xs ys : List X) → AllByRecursion P xs → AllByRecursion P ys → AllByRecursion P (xs ++ ys)
all-append P [] ys h k = k
all-append P (x ∷ xs) ys h k = (h.0, all-append P xs ys h.1 k)

all-flat : {X Y : Type 0} (f : X → List Y) (P : Y → Type 0) → ((x : X) → AllByRecursion P (f x)) → (xs : List X) → AllByRecursion P (flat_map f xs)
all-flat f P h [] = tt
all-flat f P h (x ∷ xs) = all-append P (f x) (flat_map f xs) (h x) (all-flat f P h xs)

from-recursion : {X : Type 0} (P : X → Type 0) (xs : List X) → AllByRecursion P xs → All P xs
from-recursion P [] h k d lt = absurd (omega (arith, lt))
from-recursion P (x ∷ xs) h zero d lt = h.0
from-recursion P (x ∷ xs) h (suc k) d lt = from-recursion P xs h.1 k d (omega (arith, lt))

module _ (facets fields : ℕ) where
  -- a pair is an edge between vertices
  read-within : (v : ℕ) → v < facets + fields → (r : Dependency) → AllByRecursion (IsEdge (facets + fields)) (read_pair facets fields v r)
  read-within v lt dependency.Doc = tt
  read-within v lt dependency.Selection = tt
  read-within v lt (dependency.Facet f) =
      ⊎_elim
      (λ (e : nat_lt f facets ≡ true). let below = ltb-true f facets e in rw e (record { vertex = lt; dependency = omega (arith, below) }, tt))
      (λ (e : nat_lt f facets ≡ false). rw e tt)
      (cases_Bool (nat_lt f facets))
  read-within v lt (dependency.Field f) =
      ⊎_elim
      (λ (e : nat_lt f fields ≡ true). let below = ltb-true f fields e in rw e (record { vertex = lt; dependency = omega (arith, below) }, tt))
      (λ (e : nat_lt f fields ≡ false). rw e tt)
      (cases_Bool (nat_lt f fields))

  facets-within : {V : Type 0} (node_defs : List (NodeDef V)) (f : ℕ) (inputs : List (List ℕ)) → f + length inputs ≡ facets → AllByRecursion (IsEdge (facets + fields)) (facet_pairs_from facets fields node_defs f inputs)
  facets-within node_defs f [] e = tt
  facets-within node_defs f (nodes ∷ rest) e =
      all-append (IsEdge (facets + fields)) (flat_map (input_pairs facets fields node_defs f) nodes) (facet_pairs_from facets fields node_defs (f + 1) rest)
      (all-flat (input_pairs facets fields node_defs f) (IsEdge (facets + fields)) (λ n. all-flat (read_pair facets fields f) (IsEdge (facets + fields)) (read-within f (omega (arith, e))) (reads_of (slice_get node_defs n))) nodes)
      (facets-within node_defs (f + 1) rest (omega (arith, e)))

  field-within : (defs : List FieldDef) (f : ℕ) (node : Option ℕ) → f < fields → AllByRecursion (IsEdge (facets + fields)) (field_pairs facets fields defs f node)
  field-within defs f None lt = tt
  field-within defs f (Some n) lt = all-flat (read_pair facets fields (facets + f)) (IsEdge (facets + fields)) (read-within (facets + f) (omega (arith, lt))) (reads_in (slice_get defs f))

  fields-within : (defs : List FieldDef) (f : ℕ) (nodes : List (Option ℕ)) → f + length nodes ≡ fields → AllByRecursion (IsEdge (facets + fields)) (field_pairs_from facets fields defs f nodes)
  fields-within defs f [] e = tt
  fields-within defs f (node ∷ rest) e =
      all-append (IsEdge (facets + fields)) (field_pairs facets fields defs f node) (field_pairs_from facets fields defs (f + 1) rest) (field-within defs f node (omega (arith, e))) (fields-within defs (f + 1) rest (omega (arith, e)))

-- the dependency pairs are edges between vertices
pub pairs-within : {V : Type 0} (facets : List FacetDef) (fields : List FieldDef) (node_defs : List (NodeDef V)) (inputs : List (List ℕ)) (nodes : List (Option ℕ)) → length inputs ≡ length facets → length nodes ≡ length fields
    → All (IsEdge (length facets + length fields)) (pairs facets fields node_defs inputs nodes)
pairs-within facets fields node_defs inputs nodes a b =
    from-recursion (IsEdge (length facets + length fields)) (pairs facets fields node_defs inputs nodes)
    (all-append (IsEdge (length facets + length fields)) (facet_pairs_from (length facets) (length fields) node_defs 0 inputs) (field_pairs_from (length facets) (length fields) fields 0 nodes)
    (facets-within (length facets) (length fields) node_defs 0 inputs (omega (arith, a))) (fields-within (length facets) (length fields) fields 0 nodes (omega (arith, b))))

-- the next of a list that is read by places
pub next-at : {X : Type 0} (xs : List X) (i : ℕ) (d : X) → i < length xs → drop i xs ≡ get_or xs i d ∷ drop (i + 1) xs
next-at xs i d lt = rw (add-one, drop-cons xs i d) refl
