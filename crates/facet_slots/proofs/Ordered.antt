-- The order of a resolved configuration goes along the dependencies.
use Rattle.std.proofs.Common.{◌≡◌, ◌≤◌, ◌<◌, ◌+◌, ◌-◌, ◌∙◌, ℕ, zero, suc, List, [], ◌∷◌, ◌++◌, Bool, true, false, cond, nat_lt, Option, None, Some, All, MatchOption, length, slice_get, get_or, map, flat_map, refl, sym, ap, subst, arith, ⊎_elim, ◌⊎◌, inl, inr}
use Rattle.std.specs.Option.{option_and_then, option_flatten, option_map}
use Rattle.std.specs.List.{AllByRecursion, range_with_len}
use Rattle.std.proofs.lemmas.Bool.{cases_Bool, cases_lt, lt-ltb, ltb-true}
use Rattle.std.proofs.lemmas.List.{length-append, length-map}
use Rattle.std.proofs.lemmas.Option.{slice_get_cases, slice_get-get_or, slice_get-map, slice_get_within}
use Rattle.id_lists.specs.Members.{In}
use Rattle.dep_graph.specs.declared.edge.Edge.{Edge}
use Rattle.dep_graph.specs.Order.{IsOrder, edge}
use Rattle.dep_graph.proofs.Members.{in-end, in-more}
use Rattle.configuration.specs.declared.dependency.Dependency.{Dependency}
use Rattle.configuration.specs.declared.dependency.Dependency.TheVariants as dependency
use Rattle.configuration.specs.declared.facet_def.FacetDef.{FacetDef}
use Rattle.configuration.specs.declared.field_def.FieldDef.{FieldDef}
use Rattle.configuration.specs.declared.node_def.NodeDef.{NodeDef}
use Rattle.configuration.specs.declared.vertex.Vertex.{Vertex}
use Rattle.configuration.specs.declared.vertex.Vertex.TheVariants.{Facet, Field}
use Rattle.configuration.specs.Pairs.{pair_with, read_pair, reads_of, reads_in, input_pairs, facet_pairs_from, field_pairs, field_pairs_from, pairs}
use Rattle.configuration.specs.Vertices.{AreOrdered, vertex_at}
use Rattle.configuration.proofs.Placing.{numbers-length}
use Rattle.values.specs.declared.val.Val.{Val}
use Rattle.facet_slots.specs.Setups.{Definitions, Setup, PresentFacet, PresentField, input_node, inputs_at, init_of, node_at, field_with, new_facets, order_of, vertex_count}
use Rattle.facet_slots.specs.Order.{AllReads, AllInputs, AllNeeds, StandsBefore, IsVertex, IsOrdered}
use Rattle.facet_slots.specs.Agreement.{IsGrown}
use Rattle.facet_slots.specs.Resolving.{IsResolvedOver, IsResolved}
use Rattle.facet_slots.proofs.Earlier.{earlier, in-place, order-short, place-in}
use Rattle.facet_slots.proofs.Growing.{longer, past-empty, same-inside}
use Rattle.facet_slots.proofs.Places.{got-first, got-second, range-at}
use Rattle.facet_slots.proofs.Resolved.{inputs-length, fields-length, inputs-defined}

-- places of two lists, one after the other
got-parts : {X : Type 0} (xs ys : List X) (i : ℕ) (x : X) → slice_get (xs ++ ys) i ≡ Some x → (slice_get xs i ≡ Some x) ⊎ ((k : ℕ) × (slice_get ys k ≡ Some x))
got-parts [] ys i x e = inr (i, e)
got-parts (a ∷ xs) ys zero x e = inl e
got-parts (a ∷ xs) ys (suc i) x e = got-parts xs ys i x e

map-some : {X Y : Type 0} (f : X → Y) (o : Option X) (y : Y) → option_map f o ≡ Some y → (x : X) × (o ≡ Some x) × (f x ≡ y)
map-some f None y e = cc
map-some f (Some x) y e = (x, refl, some-back e)
  where
    some-back : {X : Type 0} {x y : X} → Some x ≡ Some y → x ≡ y
    some-back g = cc

range-some : (from n k x : ℕ) → slice_get (range_with_len from n) k ≡ Some x → (from ≤ x) × (x < from + n)
range-some from zero k x e = absurd (none-some e)
  where
    none-some : {X : Type 0} {x : X} → None ≡ Some x → ⊥
    none-some f = cc
range-some from (suc n) zero x e = let same : from ≡ x = some-back e in (omega (arith, same), omega (arith, same))
  where
    some-back : {X : Type 0} {x y : X} → Some x ≡ Some y → x ≡ y
    some-back g = cc
range-some from (suc n) (suc k) x e = let h = range-some (from + 1) n k x e in (omega (arith, h.0), omega (arith, h.1))

from-places : {X : Type 0} (P : X → Type 0) (xs : List X) → ((i : ℕ) (x : X) → slice_get xs i ≡ Some x → P x) → All P xs
from-places P xs h i d inside = h i _ (slice_get-get_or xs i d inside)

-- the numbers of facets and fields
facet-number : (nf n : ℕ) → n < nf → vertex_at nf n ≡ Facet n
facet-number nf n lt = ap (λ (b : Bool). cond b (Facet n) (Field (n - nf))) (lt-ltb n nf lt)

not-less : (m n : ℕ) → n ≤ m → nat_lt m n ≡ false
not-less m n le = ⊎_elim (λ (e : nat_lt m n ≡ true). let lt = ltb-true m n e in absurd (omega (arith, le, lt))) (λ (e : nat_lt m n ≡ false). e) (cases_Bool (nat_lt m n))

field-number : (nf n : ℕ) → nf ≤ n → vertex_at nf n ≡ Field (n - nf)
field-number nf n le = ap (λ (b : Bool). cond b (Facet n) (Field (n - nf))) (not-less n nf le)

-- the pairs of a facet and of a field are among the dependency pairs
facet-pair : {V : Type 0} (nf nk : ℕ) (defs : List (NodeDef V)) (base k f : ℕ) (inputs : List (List ℕ)) (e : Edge) → base + k ≡ f
    → In e (flat_map (input_pairs nf nk defs f) (get_or inputs k [])) → In e (facet_pairs_from nf nk defs base inputs)
facet-pair nf nk defs base k f [] e same i = absurd i
facet-pair nf nk defs base zero f (nodes ∷ rest) e same i =
    let is : base ≡ f = omega (arith, same) in
    in-more (flat_map (input_pairs nf nk defs base) nodes) (facet_pairs_from nf nk defs (base + 1) rest) e (subst (λ (n : ℕ). In e (flat_map (input_pairs nf nk defs n) nodes)) (sym is) i)
facet-pair nf nk defs base (suc k) f (nodes ∷ rest) e same i =
    in-end (flat_map (input_pairs nf nk defs base) nodes) (facet_pairs_from nf nk defs (base + 1) rest) e (facet-pair nf nk defs (base + 1) k f rest e (omega (arith, same)) i)

field-pair : (nf nk : ℕ) (defs : List FieldDef) (base k f node : ℕ) (nodes : List (Option ℕ)) (e : Edge) → base + k ≡ f → slice_get nodes k ≡ Some (Some node)
    → In e (flat_map (read_pair nf nk (nf + f)) (reads_in (slice_get defs f))) → In e (field_pairs_from nf nk defs base nodes)
field-pair nf nk defs base k f node [] e same at i = absurd (none-some at)
  where
    none-some : {X : Type 0} {x : X} → None ≡ Some x → ⊥
    none-some g = cc
field-pair nf nk defs base zero f node (first ∷ rest) e same at i =
    let is : base ≡ f = omega (arith, same) in
    let one : first ≡ Some node = some-back at in
    in-more (field_pairs nf nk defs base first) (field_pairs_from nf nk defs (base + 1) rest) e
    (subst (λ (o : Option ℕ). In e (field_pairs nf nk defs base o)) (sym one) (subst (λ (n : ℕ). In e (flat_map (read_pair nf nk (nf + n)) (reads_in (slice_get defs n)))) (sym is) i))
  where
    some-back : {X : Type 0} {x y : X} → Some x ≡ Some y → x ≡ y
    some-back g = cc
field-pair nf nk defs base (suc k) f node (first ∷ rest) e same at i =
    in-end (field_pairs nf nk defs base first) (field_pairs_from nf nk defs (base + 1) rest) e (field-pair nf nk defs (base + 1) k f node rest e (omega (arith, same)) at i)

flatten-some : (o : Option (Option ℕ)) (n : ℕ) → option_flatten o ≡ Some n → o ≡ Some (Some n)
flatten-some None n e = cc
flatten-some (Some None) n e = cc
flatten-some (Some (Some m)) n e = ap Some e

module _ (P : Vertex → Type 0) (setup : Setup) where
  facet-needs : (f : ℕ) (o : Option FacetDef) → AllInputs P (inputs_at setup f) → MatchOption (option_map {U = PresentFacet} (λ (def : FacetDef). record { def = def; inputs = inputs_at setup f }) o) (Unit {0}) (λ facet. AllInputs P facet.inputs)
  facet-needs f None h = tt
  facet-needs f (Some def) h = h

  inputs-need : (f : ℕ) (def : FacetDef) → slice_get setup.defs.facets f ≡ Some def → AllNeeds P setup (Facet f) → AllInputs P (inputs_at setup f)
  inputs-need f def at h = subst (λ (o : Option FacetDef). MatchOption (option_map {U = PresentFacet} (λ (d : FacetDef). record { def = d; inputs = inputs_at setup f }) o) (Unit {0}) (λ facet. AllInputs P facet.inputs)) at h

  def-needs : (f node : ℕ) (o : Option FieldDef) → ((def : FieldDef) → o ≡ Some def → AllReads P def.reads)
      → MatchOption (option_map {U = PresentField} (λ (def : FieldDef). record { def = def; init = init_of (slice_get setup.defs.node_defs node) }) o) (Unit {0}) (λ field. AllReads P field.def.reads)
  def-needs f node None h = tt
  def-needs f node (Some def) h = h def refl

  node-needs : (f : ℕ) (o : Option ℕ) → ((node : ℕ) → o ≡ Some node → MatchOption (field_with setup f node) (Unit {0}) (λ field. AllReads P field.def.reads))
      → MatchOption (option_and_then (field_with setup f) o) (Unit {0}) (λ field. AllReads P field.def.reads)
  node-needs f None h = tt
  node-needs f (Some node) h = h node refl

  reads-need : (f node : ℕ) (def : FieldDef) → node_at setup f ≡ Some node → slice_get setup.defs.fields f ≡ Some def → AllNeeds P setup (Field f) → AllReads P def.reads
  reads-need f node def there at h =
      subst (λ (o : Option FieldDef). MatchOption (option_map {U = PresentField} (λ (d : FieldDef). record { def = d; init = init_of (slice_get setup.defs.node_defs node) }) o) (Unit {0}) (λ field. AllReads P field.def.reads)) at
      (subst (λ (o : Option ℕ). MatchOption (option_and_then (field_with setup f) o) (Unit {0}) (λ field. AllReads P field.def.reads)) there h)

module _ (first : Definitions) (setup : Setup) (over : IsResolvedOver first setup) (grown : IsGrown first setup.defs) (numbers : List ℕ) (vertices_are : setup.config.order ≡ map (vertex_at (length first.facets)) numbers)
    (is : IsOrder (length first.facets + length first.fields) (pairs first.facets first.fields first.node_defs setup.config.inputs setup.config.fields) numbers) where
  number-at : (i : ℕ) (v : Vertex) → slice_get setup.config.order i ≡ Some v → (n : ℕ) × (slice_get numbers i ≡ Some n) × (vertex_at (length first.facets) n ≡ v)
  number-at i v at =
      map-some (vertex_at (length first.facets)) (slice_get numbers i) v
      (sym (slice_get-map (vertex_at (length first.facets)) numbers i) ∙ ap (λ (vs : List Vertex). slice_get vs i) (sym vertices_are) ∙ at)

  vertex-place : (i n : ℕ) → slice_get numbers i ≡ Some n → slice_get (order_of setup) i ≡ Some (vertex_at (length first.facets) n)
  vertex-place i n at =
      got-first setup.config.order (map Facet (range_with_len (length setup.config.inputs) (new_facets setup))) i (vertex_at (length first.facets) n)
      (ap (λ (vs : List Vertex). slice_get vs i) vertices_are ∙ slice_get-map (vertex_at (length first.facets)) numbers i ∙ ap (option_map (vertex_at (length first.facets))) at)

  facet-place : (i f : ℕ) → f < length first.facets → slice_get numbers i ≡ Some f → slice_get (order_of setup) i ≡ Some (Facet f)
  facet-place i f lt at = vertex-place i f at ∙ ap Some (facet-number (length first.facets) f lt)

  field-place : (i f : ℕ) → slice_get numbers i ≡ Some (length first.facets + f) → slice_get (order_of setup) i ≡ Some (Field f)
  field-place i f at =
      let same : length first.facets + f - length first.facets ≡ f = omega arith in
      vertex-place i (length first.facets + f) at ∙ ap Some (field-number (length first.facets) (length first.facets + f) (omega arith) ∙ ap (λ (n : ℕ). Field n) same)

  order-length : length setup.config.order ≡ length numbers
  order-length = ap (λ (vs : List Vertex). length vs) vertices_are ∙ length-map numbers (vertex_at (length first.facets))

  new-length : length (map Facet (range_with_len (length setup.config.inputs) (new_facets setup))) ≡ new_facets setup
  new-length = numbers-length Facet (length setup.config.inputs) (new_facets setup)

  whole-length : length (order_of setup) ≡ length numbers + new_facets setup
  whole-length =
      let a = length-append setup.config.order (map Facet (range_with_len (length setup.config.inputs) (new_facets setup))) in
      let b = order-length in let d = new-length in omega (arith, a, b, d)

  short : length (order_of setup) ≤ vertex_count setup
  short =
      let a = whole-length in
      let b = order-short (length first.facets + length first.fields) (pairs first.facets first.fields first.node_defs setup.config.inputs setup.config.fields) numbers is in
      let d = inputs-length first setup over in let e = fields-length first setup over in
      let g = longer first.facets setup.defs.facets grown.facets in
      omega (arith, a, b, d, e, g)

  old-vertex : (n : ℕ) → n < length first.facets + length first.fields → IsVertex setup (vertex_at (length first.facets) n)
  old-vertex n inside =
      let g = longer first.facets setup.defs.facets grown.facets in
      let e = fields-length first setup over in
      ⊎_elim (λ lt. subst (IsVertex setup) (sym (facet-number (length first.facets) n lt)) (omega (arith, lt, g)))
      (λ le. subst (IsVertex setup) (sym (field-number (length first.facets) n le)) (omega (arith, le, inside, e))) (cases_lt n (length first.facets))

  new-at : (k : ℕ) (v : Vertex) → slice_get (map Facet (range_with_len (length setup.config.inputs) (new_facets setup))) k ≡ Some v
      → (f : ℕ) × (length setup.config.inputs ≤ f) × (f < length setup.defs.facets) × (Facet f ≡ v)
  new-at k v at =
      let found = map-some Facet (slice_get (range_with_len (length setup.config.inputs) (new_facets setup)) k) v (sym (slice_get-map Facet (range_with_len (length setup.config.inputs) (new_facets setup)) k) ∙ at) in
      let within = range-some (length setup.config.inputs) (new_facets setup) k found.0 found.1 in
      let above = within.0 in let below = within.1 in
      (found.0, above, omega (arith, above, below), found.2)

  known-at : (i : ℕ) (v : Vertex) → slice_get (order_of setup) i ≡ Some v → IsVertex setup v
  known-at i v at =
      ⊎_elim
      (λ old. let n = number-at i v old in subst (IsVertex setup) n.2 (old-vertex n.0 (is.within n.0 (place-in n.0 numbers i n.1))))
      (λ new. let f = new-at new.0 v new.1 in subst (IsVertex setup) f.3 f.2)
      (got-parts setup.config.order (map Facet (range_with_len (length setup.config.inputs) (new_facets setup))) i v at)

  complete : (v : Vertex) → IsVertex setup v → StandsBefore (order_of setup) (length (order_of setup)) v
  complete (Facet f) inside =
      ⊎_elim
      (λ lt. let place = in-place f numbers (is.complete f (omega (arith, lt))) in
      let at = facet-place place.0 f lt place.2 in (place.0, slice_get_within (order_of setup) place.0 (Facet f) at, at))
      (λ le. let d = inputs-length first setup over in
      let k : ℕ = f - length setup.config.inputs in
      let same : length setup.config.inputs + (f - length setup.config.inputs) ≡ f = omega (arith, le, d) in
      let at : slice_get (order_of setup) (length setup.config.order + (f - length setup.config.inputs)) ≡ Some (Facet f) =
      got-second setup.config.order (map Facet (range_with_len (length setup.config.inputs) (new_facets setup))) (f - length setup.config.inputs) (length setup.config.order + (f - length setup.config.inputs)) refl
      ∙ slice_get-map Facet (range_with_len (length setup.config.inputs) (new_facets setup)) (f - length setup.config.inputs)
      ∙ ap (option_map Facet) (range-at (length setup.config.inputs) (new_facets setup) (f - length setup.config.inputs) (omega (arith, le, d, inside)) ∙ ap Some same) in
      (length setup.config.order + (f - length setup.config.inputs), slice_get_within (order_of setup) (length setup.config.order + (f - length setup.config.inputs)) (Facet f) at, at))
      (cases_lt f (length first.facets))
  complete (Field f) inside =
      let e = fields-length first setup over in
      let place = in-place (length first.facets + f) numbers (is.complete (length first.facets + f) (omega (arith, inside, e))) in
      let at = field-place place.0 f place.2 in (place.0, slice_get_within (order_of setup) place.0 (Field f) at, at)

  module _ (i n : ℕ) (at : slice_get numbers i ≡ Some n) where
    abbrev IsPair : Edge → Type 0
    IsPair e = In e (pairs first.facets first.fields first.node_defs setup.config.inputs setup.config.fields)

    before : (d : ℕ) → In (edge n d) (pairs first.facets first.fields first.node_defs setup.config.inputs setup.config.fields) → (k : ℕ) × (k < i) × (slice_get numbers k ≡ Some d)
    before d dep = earlier (length first.facets + length first.fields) (pairs first.facets first.fields first.node_defs setup.config.inputs setup.config.fields) numbers is i n d at dep

    reads-before : (reads : List Dependency) → AllReads (IsVertex (record { defs = first; config = setup.config })) reads
        → ((e : Edge) → In e (flat_map (read_pair (length first.facets) (length first.fields) n) reads) → In e (pairs first.facets first.fields first.node_defs setup.config.inputs setup.config.fields))
        → AllReads (StandsBefore (order_of setup) i) reads
    reads-before [] h more = tt
    reads-before (dependency.Doc ∷ reads) h more = reads-before reads h more
    reads-before (dependency.Selection ∷ reads) h more = reads-before reads h more
    reads-before (dependency.Facet f ∷ reads) h more =
        let one : In (edge n f) (read_pair (length first.facets) (length first.fields) n (dependency.Facet f)) =
        subst (λ (b : Bool). In (edge n f) (pair_with n (cond b (Some f) None))) (sym (lt-ltb f (length first.facets) h.0)) (inl refl) in
        let place = before f (more (edge n f) (in-more (read_pair (length first.facets) (length first.fields) n (dependency.Facet f)) (flat_map (read_pair (length first.facets) (length first.fields) n) reads) (edge n f) one)) in (
          (place.0, place.1, facet-place place.0 f h.0 place.2),
          reads-before reads h.1 (λ e j. more e (in-end (read_pair (length first.facets) (length first.fields) n (dependency.Facet f)) (flat_map (read_pair (length first.facets) (length first.fields) n) reads) e j)),
        )
    reads-before (dependency.Field f ∷ reads) h more =
        let lt = h.0 in let same = fields-length first setup over in
        let inside : f < length first.fields = omega (arith, lt, same) in
        let one : In (edge n (length first.facets + f)) (read_pair (length first.facets) (length first.fields) n (dependency.Field f)) =
        subst (λ (b : Bool). In (edge n (length first.facets + f)) (pair_with n (cond b (Some (length first.facets + f)) None))) (sym (lt-ltb f (length first.fields) inside)) (inl refl) in
        let place = before (length first.facets + f) (more (edge n (length first.facets + f)) (in-more (read_pair (length first.facets) (length first.fields) n (dependency.Field f)) (flat_map (read_pair (length first.facets) (length first.fields) n) reads) (edge n (length first.facets + f)) one)) in (
          (place.0, place.1, field-place place.0 f place.2),
          reads-before reads h.1 (λ e j. more e (in-end (read_pair (length first.facets) (length first.fields) n (dependency.Field f)) (flat_map (read_pair (length first.facets) (length first.fields) n) reads) e j)),
        )

    inputs-before : (ids : List ℕ) → AllByRecursion (λ (m : ℕ). m < length first.node_defs) ids → AllInputs (IsVertex (record { defs = first; config = setup.config })) (map (input_node first.node_defs) ids)
        → ((e : Edge) → In e (flat_map (input_pairs (length first.facets) (length first.fields) first.node_defs n) ids) → In e (pairs first.facets first.fields first.node_defs setup.config.inputs setup.config.fields))
        → AllInputs (StandsBefore (order_of setup) i) (map (input_node setup.defs.node_defs) ids)
    inputs-before [] defined h more = tt
    inputs-before (m ∷ ids) defined h more = (
      subst (λ (o : Option (NodeDef Val)). AllReads (StandsBefore (order_of setup) i) (reads_of o)) (same-inside first.node_defs setup.defs.node_defs grown.node_defs m defined.0)
          (reads-before (reads_of (slice_get first.node_defs m)) h.0
          (λ e j. more e (in-more (input_pairs (length first.facets) (length first.fields) first.node_defs n m) (flat_map (input_pairs (length first.facets) (length first.fields) first.node_defs n) ids) e j))),
      inputs-before ids defined.1 h.1
          (λ e j. more e (in-end (input_pairs (length first.facets) (length first.fields) first.node_defs n m) (flat_map (input_pairs (length first.facets) (length first.fields) first.node_defs n) ids) e j)),
    )

    facet-after : n < length first.facets → AllNeeds (StandsBefore (order_of setup) i) setup (Facet n)
    facet-after lt =
        let def : (d : FacetDef) × (slice_get first.facets n ≡ Some d) = ⊎_elim (λ found. (found.0, found.2)) (λ past. absurd (omega (arith, past.0, lt))) ((slice_get_cases first.facets n).1) in
        let reads = inputs-need (IsVertex (record { defs = first; config = setup.config })) (record { defs = first; config = setup.config }) n def.0 def.1 (over.reads (Facet n)) in
        facet-needs (StandsBefore (order_of setup) i) setup n (slice_get setup.defs.facets n)
        (inputs-before (get_or setup.config.inputs n []) (inputs-defined first setup over n) reads
        (λ e j. in-more (facet_pairs_from (length first.facets) (length first.fields) first.node_defs 0 setup.config.inputs) (field_pairs_from (length first.facets) (length first.fields) first.fields 0 setup.config.fields) e
        (facet-pair (length first.facets) (length first.fields) first.node_defs 0 n n setup.config.inputs e (omega arith) j)))

    field-after : (f : ℕ) → length first.facets + f ≡ n → f < length first.fields → AllNeeds (StandsBefore (order_of setup) i) setup (Field f)
    field-after f same inside =
        node-needs (StandsBefore (order_of setup) i) setup f (node_at setup f)
        (λ node there. def-needs (StandsBefore (order_of setup) i) setup f node (slice_get setup.defs.fields f)
        (λ def got. let was : slice_get first.fields f ≡ Some def = same-inside first.fields setup.defs.fields grown.fields f inside ∙ got in
        reads-before def.reads (reads-need (IsVertex (record { defs = first; config = setup.config })) (record { defs = first; config = setup.config }) f node def there was (over.reads (Field f)))
        (λ e j. in-end (facet_pairs_from (length first.facets) (length first.fields) first.node_defs 0 setup.config.inputs) (field_pairs_from (length first.facets) (length first.fields) first.fields 0 setup.config.fields) e
        (field-pair (length first.facets) (length first.fields) first.fields 0 f f node setup.config.fields e (omega arith) (flatten-some (slice_get setup.config.fields f) node there)
        (subst (λ (o : Option FieldDef). In e (flat_map (read_pair (length first.facets) (length first.fields) (length first.facets + f)) (reads_in o))) (sym was)
        (subst (λ (m : ℕ). In e (flat_map (read_pair (length first.facets) (length first.fields) m) def.reads)) (sym same) j))))))

  after-at : (i : ℕ) (v : Vertex) → slice_get (order_of setup) i ≡ Some v → AllNeeds (StandsBefore (order_of setup) i) setup v
  after-at i v at =
      ⊎_elim
      (λ old. let n = number-at i v old in
      let within = is.within n.0 (place-in n.0 numbers i n.1) in
      subst (AllNeeds (StandsBefore (order_of setup) i) setup) n.2
      (⊎_elim (λ lt. subst (AllNeeds (StandsBefore (order_of setup) i) setup) (sym (facet-number (length first.facets) n.0 lt)) (facet-after i n.0 n.1 lt))
      (λ le. subst (AllNeeds (StandsBefore (order_of setup) i) setup) (sym (field-number (length first.facets) n.0 le)) (field-after i n.0 n.1 (n.0 - length first.facets) (omega (arith, le)) (omega (arith, le, within))))
      (cases_lt n.0 (length first.facets))))
      (λ new. let f = new-at new.0 v new.1 in
      subst (AllNeeds (StandsBefore (order_of setup) i) setup) f.3
      (facet-needs (StandsBefore (order_of setup) i) setup f.0 (slice_get setup.defs.facets f.0)
      (subst (λ (ids : List ℕ). AllInputs (StandsBefore (order_of setup) i) (map (input_node setup.defs.node_defs) ids)) (sym (past-empty setup.config.inputs f.0 f.1)) tt)))
      (got-parts setup.config.order (map Facet (range_with_len (length setup.config.inputs) (new_facets setup))) i v at)

  ordered : IsOrdered setup
  ordered = record { short = short; known = from-places (IsVertex setup) (order_of setup) known-at; complete = complete; after = after-at }

-- the order of a resolved configuration goes along the dependencies, over what was declared since too
pub resolved-ordered : (setup : Setup) → IsResolved setup → IsOrdered setup
resolved-ordered setup is =
    let config = is.over.config in
    let order : AreOrdered (length is.defs.facets) (length is.defs.facets + length is.defs.fields) (pairs is.defs.facets is.defs.fields is.defs.node_defs setup.config.inputs setup.config.fields) setup.config.order =
    rw (config.inputs_are, config.fields_are) config.order_is in
    ordered is.defs setup is.over is.grown order.numbers order.vertices_are order.is_order
