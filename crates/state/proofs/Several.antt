-- The facet that allows several ranges is static, so its value in a configuration is the same over any document.
use Rattle.std.proofs.Common.{◌≡◌, ◌<◌, ◌≤◌, ◌+◌, ◌∙◌, ◌++◌, ◌||◌, ℕ, zero, suc, List, [], ◌∷◌, Bool, true, false, cond, eqb, length, map, slice_get, get_or, Option, None, Some, refl, sym, ap, subst, arith}
use Rattle.std.specs.Option.{option_map, unwrap_or}
use Rattle.std.specs.List.{AllByRecursion, list_any, range_with_len}
use Rattle.std.proofs.lemmas.Bool.Decides.{Decides-eqb}
use Rattle.ext_tree.specs.declared.node.Node.{Node}
use Rattle.ext_tree.specs.declared.node.Node.TheVariants as nodes
use Rattle.ext_tree.specs.Flat.{flat_order}
use Rattle.configuration.specs.Config.{ConfigView}
use Rattle.configuration.specs.declared.facet_def.FacetDef.{FacetDef}
use Rattle.configuration.specs.declared.node_def.NodeDef.{NodeDef}
use Rattle.configuration.specs.declared.node_def.NodeDef.TheVariants as defs
use Rattle.configuration.specs.declared.vertex.Vertex.TheVariants.{Facet}
use Rattle.configuration.specs.Present.{facet_in, inputs_of, is_id}
use Rattle.transaction.specs.Numbers.{IsNumber}
use Rattle.configuration.proofs.Placing.{numbers-length}
use Rattle.registry.specs.Predeclared.{combined_by, predeclared, predeclared_facets}
use Rattle.values.specs.declared.val.Val.{Val}
use Rattle.values.specs.Combining.{is_true}
use Rattle.values.specs.Declarations.{Declarations}
use Rattle.values.specs.Growth.{IsGrowth}
use Rattle.values.specs.Lawful.{IsDefined, IsInput, IsLawful}
use Rattle.values.specs.Reading.{nothing}
use Rattle.values.specs.Rules.{Rules}
use Rattle.values.specs.Shipped.{KeepsShipped}
use Rattle.facet_slots.specs.FacetValues.{facet_value, joined, node_outputs, outputs}
use Rattle.facet_slots.specs.Order.{IsOrdered}
use Rattle.facet_slots.specs.Scenes.{SceneView, Values}
use Rattle.facet_slots.specs.Setups.{input_node, inputs_at}
use Rattle.facet_slots.specs.Stepping.{Enter, creation, empty_state, rule_of}
use Rattle.facet_slots.proofs.Declared.{definitions-grown}
use Rattle.facet_slots.proofs.Growing.{longer}
use Rattle.facet_slots.proofs.Held.{settled-at}
use Rattle.filters.specs.Shown.{allowed}
use Rattle.state.specs.declared.extensions.Extensions.{Extensions}
use Rattle.state.specs.Creating.{start_scene}
use Rattle.state.specs.Cutting.{allows_several, config_allows_several, is_true_input, some_input_true}
use Rattle.state.specs.Reconfigured.{IsConfigOf, setup_in, tree_in}

-- an input with a value of its own
abbrev IsGiven : Option (NodeDef Val) → Type 0
IsGiven (Some (defs.Of v)) = Unit {0}
IsGiven _ = ⊥

false-true : false ≡ true → ⊥
false-true e = cc

-- the definition of the facet
abbrev pub several_def : FacetDef
several_def = combined_by 3 true

module _ (rules : Rules) (d : Declarations) (lawful : IsLawful rules d) (known : slice_get d.facets 1 ≡ Some several_def) where
  def-given : (nd : NodeDef Val) → IsInput rules d (Some several_def) nd → IsGiven (Some nd)
  def-given defs.Branch h = absurd h
  def-given (defs.Of v) h = tt
  def-given (defs.Compute rule rs) h = absurd (false-true (sym h.not_static))
  def-given (defs.ComputeN rule rs) h = absurd (false-true (sym h.not_static))
  def-given (defs.From field rule) h = absurd (false-true (sym h.not_static))
  def-given defs.Field h = absurd h
  def-given (defs.Init v) h = absurd h

  input-given : (f : ℕ) (o : Option (NodeDef Val)) → eqb 1 f ≡ true → IsDefined rules d (nodes.Input f) o → IsGiven o
  input-given f None is h = absurd h
  input-given f (Some nd) is h =
      let same : 1 ≡ f = (Decides-eqb 1 f).0 is in
      def-given nd (subst (λ (o : Option FacetDef). IsInput rules d o nd) (ap (slice_get d.facets) (sym same) ∙ known) h)

  node-given : (o : Option Node) (nd : Option (NodeDef Val)) → is_id 1 (facet_in o) ≡ true → ((node : Node) → o ≡ Some node → IsDefined rules d node nd) → IsGiven nd
  node-given None nd is h = absurd (false-true is)
  node-given (Some (nodes.Group of)) nd is h = absurd (false-true is)
  node-given (Some (nodes.Prec at of)) nd is h = absurd (false-true is)
  node-given (Some (nodes.Slot compartment content)) nd is h = absurd (false-true is)
  node-given (Some (nodes.Input f)) nd is h = input-given f nd is (h (nodes.Input f) refl)
  node-given (Some (nodes.Field f)) nd is h = absurd (false-true is)
  node-given (Some (nodes.Init f)) nd is h = absurd (false-true is)

  inputs-given : (ns : List ℕ) → AllByRecursion (λ (n : ℕ). IsGiven (slice_get d.node_defs n)) (inputs_of d.nodes 1 ns)
  inputs-given [] = tt
  inputs-given (n ∷ ns) =
      elim (is_id 1 (facet_in (slice_get d.nodes n)))
      as (λ b. is_id 1 (facet_in (slice_get d.nodes n)) ≡ b → AllByRecursion (λ (m : ℕ). IsGiven (slice_get d.node_defs m)) (cond b (n ∷ inputs_of d.nodes 1 ns) (inputs_of d.nodes 1 ns))) [
        | true ↦ λ e. (node-given (slice_get d.nodes n) (slice_get d.node_defs n) e (λ node at. lawful.nodes n node at), inputs-given ns)
        | false ↦ λ e. inputs-given ns
      ] refl

  -- the inputs of that facet among those of all facets from one on
  lists-given : (facets from f : ℕ) (ns : List ℕ) → from + f ≡ 1 → AllByRecursion (λ (n : ℕ). IsGiven (slice_get d.node_defs n)) (get_or (map (λ (facet : ℕ). inputs_of d.nodes facet ns) (range_with_len from facets)) f [])
  lists-given zero from f ns e = tt
  lists-given (suc facets) from zero ns e =
      subst (λ (facet : ℕ). AllByRecursion (λ (n : ℕ). IsGiven (slice_get d.node_defs n)) (inputs_of d.nodes facet ns)) (omega (arith, e)) (inputs-given ns)
  lists-given (suc facets) from (suc f) ns e = lists-given facets (from + 1) f ns (omega (arith, e))

  config-given : (e : Extensions) (config : ConfigView) → IsConfigOf d e config → AllByRecursion (λ (n : ℕ). IsGiven (slice_get d.node_defs n)) (get_or config.inputs 1 [])
  config-given e config is =
      subst (λ (xs : List (List ℕ)). AllByRecursion (λ (n : ℕ). IsGiven (slice_get d.node_defs n)) (get_or xs 1 [])) (sym is.inputs_are)
      (lists-given (length d.facets) 0 1 (flat_order (record { nodes = d.nodes; contents = e.contents; links = d.links }) e.base) refl)

module _ (rules : Rules) (scene : SceneView) (values : Values) (node_defs : List (NodeDef Val)) where
  one-true : (o : Option (NodeDef Val)) (rest : List Val) (b : Bool) → IsGiven o → list_any is_true rest ≡ b → list_any is_true (outputs rules scene values o ++ rest) ≡ (is_true_input o || b)
  one-true None rest b g e = absurd g
  one-true (Some defs.Branch) rest b g e = absurd g
  one-true (Some (defs.Of v)) rest b g e = ap (λ (c : Bool). is_true v || c) e
  one-true (Some (defs.Compute rule rs)) rest b g e = absurd g
  one-true (Some (defs.ComputeN rule rs)) rest b g e = absurd g
  one-true (Some (defs.From field rule)) rest b g e = absurd g
  one-true (Some defs.Field) rest b g e = absurd g
  one-true (Some (defs.Init v)) rest b g e = absurd g

  -- whether what given inputs give has a true value
  some-true : (ns : List ℕ) → AllByRecursion (λ (n : ℕ). IsGiven (slice_get node_defs n)) ns → list_any is_true (joined (map (node_outputs rules scene values) (map (input_node node_defs) ns))) ≡ some_input_true node_defs ns
  some-true [] g = refl
  some-true (n ∷ ns) g =
      one-true (slice_get node_defs n) (joined (map (node_outputs rules scene values) (map (input_node node_defs) ns))) (some_input_true node_defs ns) g.0 (some-true ns g.1)

-- the state of a configuration allows several ranges exactly where an input of the configuration says so
pub allows-config : (rules : Rules) → KeepsShipped rules → (d : Declarations) → IsLawful rules d → slice_get d.facets 1 ≡ Some several_def → (e : Extensions) (config : ConfigView) → IsConfigOf d e config → IsOrdered (setup_in d config) → (scene : SceneView)
    → allows_several (creation rules (setup_in d config) scene) ≡ config_allows_several d.node_defs config
allows-config rules keeps d lawful known e config is ordered scene =
    let values : Values = (creation rules (setup_in d config) scene).values in
    let inputs : List ℕ = get_or config.inputs 1 [] in
    let third : IsNumber 13 3 = record { low = omega arith; high = omega arith } in
    ap (λ (o : Option Val). is_true (unwrap_or o nothing))
    (settled-at rules (setup_in d config) ordered scene (rule_of rules Enter (empty_state scene)) (Facet 1)
    ∙ ap (λ (o : Option FacetDef). option_map (facet_value rules scene values) (option_map (λ (def : FacetDef). record { def = def; inputs = inputs_at (setup_in d config) 1 }) o)) known)
    ∙ ap (λ (f : List Val → Val). is_true (f (joined (map (node_outputs rules scene values) (map (input_node d.node_defs) inputs))))) (keeps.combine.kept 3 third)
    ∙ some-true rules scene values d.node_defs inputs (config-given rules d lawful known e config is)

abbrev cut_of : SceneView → Bool → SceneView
cut_of scene b = record { document = scene.document; selection = allowed b scene.selection }

-- so the selection that is cut by the configuration is the one that the first state is made over
pub start-is : (rules : Rules) → KeepsShipped rules → (d : Declarations) → IsLawful rules d → slice_get d.facets 1 ≡ Some several_def → (e : Extensions) (config : ConfigView) → IsConfigOf d e config → IsOrdered (setup_in d config) → (scene : SceneView) (several : Bool) (node_defs : List (NodeDef Val))
    → node_defs ≡ d.node_defs → several ≡ config_allows_several node_defs config → record { document = scene.document; selection = allowed several scene.selection } ≡ start_scene rules (setup_in d config) scene
start-is rules keeps d lawful known e config is ordered scene several node_defs defs same =
    ap (cut_of scene) (same ∙ ap (λ (xs : List (NodeDef Val)). config_allows_several xs config) defs ∙ sym (allows-config rules keeps d lawful known e config is ordered scene))

-- a configuration has a place for the inputs of that facet
pub several-known : (d : Declarations) → IsGrowth predeclared d → (e : Extensions) (config : ConfigView) → IsConfigOf d e config → 1 < length config.inputs
several-known d grown e config is =
    let l : 10 ≤ length d.facets = longer predeclared_facets d.facets (definitions-grown predeclared d grown).facets in
    let same : length config.inputs ≡ length d.facets =
    ap (λ (xs : List (List ℕ)). length xs) is.inputs_are ∙ numbers-length (λ (facet : ℕ). inputs_of d.nodes facet (flat_order (tree_in d e) e.base)) 0 (length d.facets) in
    omega (arith, l, same)
