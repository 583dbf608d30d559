-- What inputs give fits the combiner.
use Rattle.std.proofs.Common.{◌≡◌, ◌∙◌, ◌≤◌, ◌<◌, length, get_or, ℕ, List, [], ◌∷◌, All, map, Bool, true, false, cond, eqb, Option, Some, None, IfSome, ap, arith, subst, sym}
use Rattle.std.specs.Option.{IsSomeAnd, option_map}
use Rattle.std.specs.List.{AllByRecursion}
use Rattle.std.proofs.lemmas.List.{append-nil}
use Rattle.std.proofs.lemmas.List.Elements.{All-nil, All-cons, All-append}
use Rattle.line_tree.specs.Text.{max_len}
use Rattle.selection.specs.Selections.{SelectionView, IsSelection, LieIn}
use Rattle.selection.specs.declared.range.Range.{Range}
use Rattle.configuration.specs.declared.dependency.Dependency.{Dependency}
use Rattle.configuration.specs.declared.dependency.Dependency.TheVariants as dependency
use Rattle.configuration.specs.declared.node_def.NodeDef.{NodeDef}
use Rattle.configuration.specs.declared.node_def.NodeDef.TheVariants as node_def
use Rattle.configuration.specs.Pairs.{reads_of}
use Rattle.transaction.specs.Numbers.{IsNumber}
use Rattle.values.specs.Views.{AreDeps, IsInside, IsShort}
use Rattle.values.specs.declared.val.Val.{Val}
use Rattle.values.specs.Rules.{Rules, AreLawful}
use Rattle.values.specs.Vals.{IsOf}
use Rattle.configuration.specs.declared.vertex.Vertex.TheVariants.{Facet}
use Rattle.facet_slots.specs.Setups.{InputNode, PresentFacet, Setup, facet_at}
use Rattle.facet_slots.specs.Scenes.{SceneView, IsScene, IsEachInRange, Values, reads_document, reads_selection, shown, vertices_of}
use Rattle.facet_slots.specs.FacetValues.{facet_value, outputs, node_outputs, joined}
use Rattle.facet_slots.specs.Lawful.{FacetsFit, FitsCombiner, FitsIn, IsLawful}
use Rattle.facet_slots.specs.declared.scene_flags.SceneFlags.{SceneFlags}
use Rattle.facet_slots.specs.Flags.{Flags, any_flagged}
use Rattle.facet_slots.specs.Nexts.{kept_outputs, next_from, next_outputs}
use Rattle.facet_slots.proofs.Ranged.{shown-in-range}

All-weaker : {X : Type 0} (P Q : X → Type 0) → ((x : X) → P x → Q x) → (xs : List X) → All P xs → All Q xs
All-weaker P Q t xs h i d inside = t _ (h i d inside)

document-short : (b : Bool) (document : List ℕ) → length document ≤ max_len → IsShort (cond b (Some document) None)
document-short true document h = h
document-short false document h = tt

inside-longer : (m n : ℕ) (rs : List Range) → m ≤ n → LieIn m rs → LieIn n rs
inside-longer m n [] le h = tt
inside-longer m n (r ∷ rs) le h = (omega (arith, h.0, le), inside-longer m n rs le h.1)

both-inside : (b c : Bool) (document : List ℕ) (selection : SelectionView) → length document ≤ max_len → LieIn (length document) selection.ranges → IsInside (cond b (Some document) None) (cond c (Some selection) None)
both-inside true true document selection short h = h
both-inside true false document selection short h = tt
both-inside false true document selection short h = inside-longer (length document) max_len selection.ranges short h
both-inside false false document selection short h = tt

selection-known : (c : Bool) (selection : SelectionView) → IsSelection selection → IfSome (cond c (Some selection) None) IsSelection
selection-known true selection is = is
selection-known false selection is = tt

-- what a rule is shown of a document with a selection of it may be relied on
pub shown-is : (scene : SceneView) → IsScene scene → (values : Values) → IsEachInRange values → (reads : List Dependency) → AreDeps (shown scene values reads)
shown-is scene is values each reads =
    record {
      short = document-short (reads_document reads) scene.document is.short;
      is_selection = selection-known (reads_selection reads) scene.selection is.is_selection;
      inside = both-inside (reads_document reads) (reads_selection reads) scene.document scene.selection is.short is.inside;
      in_range = shown-in-range values each (vertices_of reads);
    }

-- a single list, joined
pub joined-one : (xss : List (List Val)) → length xss < 2 → 1 ≤ length xss → (xs : List Val) → xs ≡ get_or xss 0 xs → joined xss ≡ xs
joined-one [] below some xs e = absurd (omega (arith, some))
joined-one (x ∷ []) below some xs e = append-nil x ∙ sym e
joined-one (x ∷ y ∷ xss) below some xs e = absurd (omega (arith, below))

module _ (rules : Rules) (lawful : AreLawful rules) (n : ℕ) (scene : SceneView) (fine : IsScene scene) (values : Values) (each : IsEachInRange values) where
  computed-fit : (rule : ℕ) (reads : List Dependency) → IsNumber rules.computers rule × FitsIn (rules.compute_output rule) (rules.combine_input n) → All (IsOf (rules.combine_input n)) (rules.compute rule (shown scene values reads) ∷ [])
  computed-fit rule reads h =
      All-cons (IsOf (rules.combine_input n)) (rules.compute rule (shown scene values reads)) []
      (h.1 (rules.compute rule (shown scene values reads)) (lawful.compute_fits rule (shown scene values reads) h.0 (shown-is scene fine values each reads))) (All-nil (IsOf (rules.combine_input n)))

  -- what an input gives is of the combiner's input shape
  pub outputs_fit : (i : Option (NodeDef Val)) → FitsCombiner rules n i → All (IsOf (rules.combine_input n)) (outputs rules scene values i)
  outputs_fit None h = absurd h
  outputs_fit (Some node_def.Branch) h = absurd h
  outputs_fit (Some (node_def.Of v)) h = All-cons (IsOf (rules.combine_input n)) v [] h (All-nil (IsOf (rules.combine_input n)))
  outputs_fit (Some (node_def.Compute rule reads)) h = computed-fit rule reads h
  outputs_fit (Some (node_def.ComputeN rule reads)) h =
      All-weaker (IsOf (rules.list_output rule)) (IsOf (rules.combine_input n)) h.1 (rules.compute_list rule (shown scene values reads)) (lawful.list_fits rule (shown scene values reads) h.0 (shown-is scene fine values each reads))
  outputs_fit (Some (node_def.From field rule)) h = computed-fit rule (dependency.Field field ∷ []) h
  outputs_fit (Some node_def.Field) h = absurd h
  outputs_fit (Some (node_def.Init v)) h = absurd h

  -- and so is what all inputs give, joined
  pub joined_fit : (is : List InputNode) → AllByRecursion (λ node. FitsCombiner rules n node.input) is → All (IsOf (rules.combine_input n)) (joined (map (node_outputs rules scene values) is))
  joined_fit [] h = All-nil (IsOf (rules.combine_input n))
  joined_fit (i ∷ is) h =
      All-append (IsOf (rules.combine_input n)) (outputs rules scene values i.input) (joined (map (node_outputs rules scene values) is)) (outputs_fit i.input h.0) (joined_fit is h.1)

-- what a node gives next fits too, where what was kept fits
module _ (rules : Rules) (lawful : AreLawful rules) (n : ℕ) (scene : SceneView) (fine : IsScene scene) (moved : SceneFlags) (flags : Flags) (values : Values) (each : IsEachInRange values) where
  found_fits : (m : ℕ) (was : List InputNode) (kept : List (List Val)) → AllByRecursion (λ k. All (IsOf (rules.combine_input n)) k) kept → IfSome (kept_outputs m was kept) (All (IsOf (rules.combine_input n)))
  found_fits m [] ks h = tt
  found_fits m (i ∷ is) [] h = tt
  found_fits m (i ∷ is) (k ∷ ks) h =
      elim (eqb i.node m) as (λ b. IfSome (cond b (Some k) (kept_outputs m is ks)) (All (IsOf (rules.combine_input n)))) [ true ↦ h.0 | false ↦ found_fits m is ks h.1 ]

  from_fits : (node : InputNode) (o : Option (List Val)) → FitsCombiner rules n node.input → IfSome o (All (IsOf (rules.combine_input n))) → All (IsOf (rules.combine_input n)) (next_from rules scene moved flags values node o)
  from_fits node None law h = outputs_fit rules lawful n scene fine values each node.input law
  from_fits node (Some k) law h =
      elim (any_flagged moved flags (reads_of node.input)) as (λ b. All (IsOf (rules.combine_input n)) (cond b (node_outputs rules scene values node) k)) [ true ↦ outputs_fit rules lawful n scene fine values each node.input law | false ↦ h ]

  pub next_fits : (was : List InputNode) (kept : List (List Val)) → AllByRecursion (λ k. All (IsOf (rules.combine_input n)) k) kept → (is : List InputNode) → AllByRecursion (λ node. FitsCombiner rules n node.input) is
      → All (IsOf (rules.combine_input n)) (joined (map (next_outputs rules scene moved flags values was kept) is))
  next_fits was kept k [] h = All-nil (IsOf (rules.combine_input n))
  next_fits was kept k (i ∷ is) h =
      All-append (IsOf (rules.combine_input n)) (next_outputs rules scene moved flags values was kept i) (joined (map (next_outputs rules scene moved flags values was kept) is))
      (from_fits i (kept_outputs i.node was kept) h.0 (found_fits i.node was kept k)) (next_fits was kept k is h.1)

-- each facet's value is of its combiner's output shape
pub facets-fit : (rules : Rules) → AreLawful rules → (setup : Setup) (scene : SceneView) (values : Values) → IsLawful rules setup → IsScene scene → IsEachInRange values
    → ((f : ℕ) → values (Facet f) ≡ option_map (facet_value rules scene values) (facet_at setup f)) → FacetsFit rules setup values
facets-fit rules law setup scene values lawful fine each combined f facet at =
    subst (λ (o : Option Val). IsSomeAnd o (IsOf (rules.combine_output facet.def.combine)))
    (sym (combined f ∙ ap (option_map (facet_value rules scene values)) at))
    (law.combine_fits facet.def.combine (joined (map (node_outputs rules scene values) facet.inputs)) (lawful.facets f facet at).combine (joined_fit rules law facet.def.combine scene fine values each facet.inputs (lawful.facets f facet at).inputs))
