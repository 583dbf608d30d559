-- A round looks only at what a facet or field depends on, so along an order the rounds settle.
use Rattle.std.proofs.Common.{◌≡◌, ◌<◌, ◌+◌, ◌∙◌, ℕ, zero, suc, List, [], ◌∷◌, Option, None, Some, length, slice_get, map, MatchOption, refl, sym, ap, subst, ⊎_elim, arith}
use Rattle.std.proofs.lemmas.Bool.{cases_lt}
use Rattle.std.specs.Option.{option_map}
use Rattle.configuration.specs.declared.dependency.Dependency.{Dependency}
use Rattle.configuration.specs.declared.dependency.Dependency.TheVariants as dependency
use Rattle.configuration.specs.declared.node_def.NodeDef.{NodeDef}
use Rattle.configuration.specs.declared.node_def.NodeDef.TheVariants as node_def
use Rattle.configuration.specs.declared.vertex.Vertex.{Vertex}
use Rattle.configuration.specs.declared.vertex.Vertex.TheVariants.{Facet, Field}
use Rattle.configuration.specs.Pairs.{reads_of}
use Rattle.values.specs.declared.val.Val.{Val}
use Rattle.values.specs.Rules.{Rules}
use Rattle.facet_slots.specs.Setups.{Setup, InputNode, PresentFacet, PresentField, facet_at, field_at, order_of, vertex_count}
use Rattle.facet_slots.specs.Scenes.{SceneView, Values, vertices_of, shown}
use Rattle.facet_slots.specs.FacetValues.{outputs, node_outputs, joined, facet_value}
use Rattle.facet_slots.specs.Settling.{FieldRule, field_value, round, rounds, settled}
use Rattle.facet_slots.specs.Order.{AllReads, AllInputs, AllNeeds, StandsBefore, IsOrdered}
use Rattle.facet_slots.specs.Keeping.{Puts, AreKnown}

some_injective : {x y : Vertex} → Some x ≡ Some y → x ≡ y
some_injective e = cc

module _ (P Q : Vertex → Type 0) (t : (w : Vertex) → P w → Q w) where
  pub AllReads-weaker : (ds : List Dependency) → AllReads P ds → AllReads Q ds
  AllReads-weaker [] h = h
  AllReads-weaker (dependency.Doc ∷ ds) h = AllReads-weaker ds h
  AllReads-weaker (dependency.Selection ∷ ds) h = AllReads-weaker ds h
  AllReads-weaker (dependency.Facet f ∷ ds) h = (t (Facet f) h.0, AllReads-weaker ds h.1)
  AllReads-weaker (dependency.Field f ∷ ds) h = (t (Field f) h.0, AllReads-weaker ds h.1)

  pub AllInputs-weaker : (is : List InputNode) → AllInputs P is → AllInputs Q is
  AllInputs-weaker [] h = h
  AllInputs-weaker (i ∷ is) h = (AllReads-weaker (reads_of i.input) h.0, AllInputs-weaker is h.1)

  facet-weaker : (o : Option PresentFacet) → MatchOption o (Unit {0}) (λ facet. AllInputs P facet.inputs) → MatchOption o (Unit {0}) (λ facet. AllInputs Q facet.inputs)
  facet-weaker None h = h
  facet-weaker (Some facet) h = AllInputs-weaker facet.inputs h

  field-weaker : (o : Option PresentField) → MatchOption o (Unit {0}) (λ field. AllReads P field.def.reads) → MatchOption o (Unit {0}) (λ field. AllReads Q field.def.reads)
  field-weaker None h = h
  field-weaker (Some field) h = AllReads-weaker field.def.reads h

  -- what holds of all that a vertex depends on may be weakened
  pub AllNeeds-weaker : (setup : Setup) (v : Vertex) → AllNeeds P setup v → AllNeeds Q setup v
  AllNeeds-weaker setup (Facet f) h = facet-weaker (facet_at setup f) h
  AllNeeds-weaker setup (Field f) h = field-weaker (field_at setup f) h

-- two valuations agree at a vertex
abbrev pub AgreeAt : Values → Values → Vertex → Type 0
AgreeAt a b w = a w ≡ b w

module _ (rules : Rules) (setup : Setup) (scene : SceneView) (rule : FieldRule) (a b : Values) where
  values-same : (ds : List Dependency) → AllReads (AgreeAt a b) ds → map a (vertices_of ds) ≡ map b (vertices_of ds)
  values-same [] h = refl
  values-same (dependency.Doc ∷ ds) h = values-same ds h
  values-same (dependency.Selection ∷ ds) h = values-same ds h
  values-same (dependency.Facet f ∷ ds) h = let e = values-same ds h.1 in let d = h.0 in cc
  values-same (dependency.Field f ∷ ds) h = let e = values-same ds h.1 in let d = h.0 in cc

  pub shown-same : (ds : List Dependency) → AllReads (AgreeAt a b) ds → shown scene a ds ≡ shown scene b ds
  shown-same ds h = ap (λ (vs : List (Option Val)). record { document = (shown scene a ds).document; selection = (shown scene a ds).selection; values = vs }) (values-same ds h)

  pub outputs-same : (i : Option (NodeDef Val)) → AllReads (AgreeAt a b) (reads_of i) → outputs rules scene a i ≡ outputs rules scene b i
  outputs-same None h = refl
  outputs-same (Some node_def.Branch) h = refl
  outputs-same (Some (node_def.Of v)) h = refl
  outputs-same (Some (node_def.Compute n reads)) h = ap (λ s. rules.compute n s ∷ []) (shown-same reads h)
  outputs-same (Some (node_def.ComputeN n reads)) h = ap (rules.compute_list n) (shown-same reads h)
  outputs-same (Some (node_def.From field n)) h = ap (λ s. rules.compute n s ∷ []) (shown-same (dependency.Field field ∷ []) h)
  outputs-same (Some node_def.Field) h = refl
  outputs-same (Some (node_def.Init v)) h = refl

  pub inputs-same : (is : List InputNode) → AllInputs (AgreeAt a b) is → map (node_outputs rules scene a) is ≡ map (node_outputs rules scene b) is
  inputs-same [] h = refl
  inputs-same (i ∷ is) h = let e = inputs-same is h.1 in let d = outputs-same i.input h.0 in cc

  facet-same : (o : Option PresentFacet) → MatchOption o (Unit {0}) (λ facet. AllInputs (AgreeAt a b) facet.inputs) → option_map (facet_value rules scene a) o ≡ option_map (facet_value rules scene b) o
  facet-same None h = refl
  facet-same (Some facet) h = ap (λ vs. Some (rules.combine facet.def.combine (joined vs))) (inputs-same facet.inputs h)

  field-same : (f : ℕ) (o : Option PresentField) → MatchOption o (Unit {0}) (λ field. AllReads (AgreeAt a b) field.def.reads) → option_map (field_value scene rule a f) o ≡ option_map (field_value scene rule b f) o
  field-same f None h = refl
  field-same f (Some field) h = ap (λ s. Some (rule f field s)) (shown-same field.def.reads h)

  -- a vertex is computed alike from values that agree on what it depends on
  pub round-same : (v : Vertex) → AllNeeds (AgreeAt a b) setup v → round rules setup scene rule a v ≡ round rules setup scene rule b v
  round-same (Facet f) h = facet-same (facet_at setup f) h
  round-same (Field f) h = field-same f (field_at setup f) h

-- one round at a vertex looks only at what the vertex depends on
abbrev pub IsLocal : {R : Type 0} → Setup → ((Vertex → R) → Vertex → R) → Type 0
IsLocal {R} setup once = (a b : Vertex → R) (v : Vertex) → AllNeeds (λ w. a w ≡ b w) setup v → once a v ≡ once b v

-- the round of the values is local
pub round-local : (rules : Rules) (setup : Setup) (scene : SceneView) (rule : FieldRule) → IsLocal setup (round rules setup scene rule)
round-local rules setup scene rule a b v h = round-same rules setup scene rule a b v h

module _ {R : Type 0} (setup : Setup) (once : (Vertex → R) → Vertex → R) (first : R) (is_local : IsLocal setup once) (ordered : IsOrdered setup) where
  -- a vertex is settled after as many rounds as its place in the order
  stays : (n j : ℕ) (v : Vertex) → j < n → slice_get (order_of setup) j ≡ Some v → (k m : ℕ) → j < k → j < m → rounds once first k v ≡ rounds once first m v
  stays zero j v lt at k m above above' = absurd (omega arith)
  stays (suc n) j v lt at zero m above above' = absurd (omega arith)
  stays (suc n) j v lt at (suc k) zero above above' = absurd (omega arith)
  stays (suc n) j v lt at (suc k) (suc m) above above' =
      is_local (rounds once first k) (rounds once first m) v
      (AllNeeds-weaker (StandsBefore (order_of setup) j) (λ w. rounds once first k w ≡ rounds once first m w)
      (λ w before. stays n before.0 w (omega (arith, before.1)) before.2 k m (omega (arith, before.1)) (omega (arith, before.1))) setup v (ordered.after j v at))

  -- so a further round changes nothing
  pub settled-once : (j : ℕ) (v : Vertex) → j < length (order_of setup) → slice_get (order_of setup) j ≡ Some v → settled setup once first v ≡ once (settled setup once first) v
  settled-once j v lt at = stays (suc j) j v (omega arith) at (vertex_count setup) (suc (vertex_count setup)) (omega (arith, ordered.short)) (omega (arith, ordered.short))

  -- and it is found from whatever agrees with it at the vertices before
  pub once-next : (a : Vertex → R) (i : ℕ) (v : Vertex) → i < length (order_of setup) → slice_get (order_of setup) i ≡ Some v
      → AreKnown setup a (settled setup once first) i → once a v ≡ settled setup once first v
  once-next a i v lt at known =
      is_local a (settled setup once first) v
      (AllNeeds-weaker (StandsBefore (order_of setup) i) (λ w. a w ≡ settled setup once first w) (λ w before. known before.0 w before.1 before.2) setup v (ordered.after i v at))
      ∙ sym (settled-once i v lt at)

  -- what is right at the vertices before a place, and is put right there, is right at one vertex more
  pub known-more : (old new : Vertex → R) (i : ℕ) (v : Vertex) (x : R) → i < length (order_of setup) → slice_get (order_of setup) i ≡ Some v
      → AreKnown setup old (settled setup once first) i → once old v ≡ x → Puts old new v x
      → AreKnown setup new (settled setup once first) (i + 1)
  known-more old new i v x lt at known is puts k w below there =
      let here : new v ≡ settled setup once first v = puts.here ∙ sym is ∙ once-next old i v lt at known in
      ⊎_elim (λ same. subst (λ (u : Vertex). new u ≡ settled setup once first u) (sym same) here)
      (λ unchanged. ⊎_elim (λ before. unchanged ∙ known k w before there)
      (λ after. let e : k ≡ i = omega arith in
      let same : w ≡ v = some_injective (sym there ∙ subst (λ (n : ℕ). slice_get (order_of setup) n ≡ Some v) (sym e) at) in
      subst (λ (u : Vertex). new u ≡ settled setup once first u) (sym same) here)
      (cases_lt k i))
      (puts.others w)

-- what is right before a place of the order, and is put right there, is right before the next place
pub known-put : {R : Type 0} (setup : Setup) (wanted old new : Vertex → R) (i : ℕ) (v : Vertex) (x : R) → slice_get (order_of setup) i ≡ Some v → AreKnown setup old wanted i → wanted v ≡ x → Puts old new v x → AreKnown setup new wanted (i + 1)
known-put {R} setup wanted old new i v x at known is puts k w below there =
    let here : new v ≡ wanted v = puts.here ∙ sym is in
    ⊎_elim (λ same. subst (λ (u : Vertex). new u ≡ wanted u) (sym same) here)
    (λ unchanged. ⊎_elim (λ before. unchanged ∙ known k w before there)
    (λ after. let e : k ≡ i = omega arith in
    let same : w ≡ v = some_injective (sym there ∙ subst (λ (n : ℕ). slice_get (order_of setup) n ≡ Some v) (sym e) at) in
    subst (λ (u : Vertex). new u ≡ wanted u) (sym same) here)
    (cases_lt k i))
    (puts.others w)
