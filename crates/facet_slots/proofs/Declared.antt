-- What a registry holds makes lawful setups: of a configuration that was resolved over it, and of an older one over what was
-- declared since.
use Rattle.std.proofs.Common.{◌≡◌, ◌≤◌, ◌<◌, ◌+◌, ◌∙◌, ◌⊎◌, inl, inr, ℕ, zero, suc, List, [], ◌∷◌, ◌++◌, true, false, cond, Option, None, Some, IfSome, MatchOption, length, drop, slice_get, get_or, map, refl, sym, ap, subst, arith, ⊎_elim}
use Rattle.std.specs.Prelude.{⊤}
use Rattle.std.proofs.lemmas.Bool.{eqb-true}
use Rattle.std.proofs.lemmas.Option.{slice_get_cases}
use Rattle.std.specs.Option.{option_and_then, option_flatten, option_map}
use Rattle.std.specs.List.{AllByRecursion, range_with_len}
use Rattle.cm_plain.specs.Form.{Form, ranges, layers, history, fits}
use Rattle.cm_plain.specs.Fitting.{fits-sound}
use Rattle.cm_plain.specs.Plain.{datum_of}
use Rattle.ext_tree.specs.declared.node.Node.{Node}
use Rattle.ext_tree.specs.declared.node.Node.TheVariants as nodes
use Rattle.ext_tree.specs.Flat.{flat_order}
use Rattle.ext_tree.specs.Tree.{Tree, tree_of}
use Rattle.configuration.specs.declared.defs.Defs.{Defs}
use Rattle.configuration.specs.declared.dependency.Dependency.{Dependency}
use Rattle.configuration.specs.declared.dependency.Dependency.TheVariants as dependency
use Rattle.configuration.specs.declared.facet_def.FacetDef.{FacetDef}
use Rattle.configuration.specs.declared.field_def.FieldDef.{FieldDef}
use Rattle.configuration.specs.declared.node_def.NodeDef.{NodeDef}
use Rattle.configuration.specs.declared.node_def.NodeDef.TheVariants as node_def
use Rattle.configuration.specs.declared.vertex.Vertex.{Vertex}
use Rattle.configuration.specs.declared.vertex.Vertex.TheVariants.{Facet, Field}
use Rattle.configuration.specs.Config.{ConfigView}
use Rattle.configuration.specs.Pairs.{reads_of}
use Rattle.configuration.specs.Present.{facet_in, field_in, is_id, inputs_of, node_of_field}
use Rattle.configuration.specs.Resolved.{IsConfig}
use Rattle.configuration.proofs.Placing.{numbers-length}
use Rattle.values.specs.declared.val.Val.{Val}
use Rattle.values.specs.declared.val.Val.TheVariants as val
use Rattle.values.specs.Rules.{Rules}
use Rattle.values.specs.Vals.{IsOf, is_of, is_ranges, is_layers, is_history}
use Rattle.values.specs.Declarations.{Declarations, AreDefs}
use Rattle.values.specs.Growth.{IsGrowth, Keeps}
use Rattle.values.specs.Lawful.{IsDefined, IsInit, IsInput, IsRead, IsLawful as AreLawfulDeclarations}
use Rattle.facet_slots.specs.Setups.{Definitions, Setup, InputNode, PresentFacet, PresentField, input_node, inputs_at, facet_at, init_of, node_at, field_with, field_at}
use Rattle.facet_slots.specs.Order.{AllReads, AllInputs, AllNeeds, IsVertex}
use Rattle.facet_slots.specs.Lawful.{FitsCombiner, FitsIn, IsLawful, IsLawfulFacet, IsLawfulField}
use Rattle.facet_slots.specs.Agreement.{Extends, IsGrown, IsContinued}
use Rattle.facet_slots.specs.Resolving.{IsResolved, IsResolvedOver}
use Rattle.facet_slots.specs.Lent.{defs_of, definitions}
use Rattle.facet_slots.proofs.Growing.{longer, some-same, facet-parts, field-parts, grown-continued}
use Rattle.facet_slots.proofs.Resolved.{resolved-formed}

none-some : {X : Type 0} {x : X} → None ≡ Some x → ⊥
none-some e = cc

-- a list whose places keep what they have goes on from the other one
keeps-extends : {X : Type 0} (old new : List X) → Keeps old new → Extends old new
keeps-extends [] new keeps = refl
keeps-extends (x ∷ old) [] keeps = absurd (none-some (keeps 0 x refl))
keeps-extends {X} (x ∷ old) (y ∷ new) keeps =
    let first : y ≡ x = some-same (keeps 0 x refl) in
    let rest : new ≡ old ++ drop (length old) new = keeps-extends old new (λ id z at. keeps (suc id) z at) in
    ap (λ (z : X). z ∷ new) first ∙ ap (λ (zs : List X). x ∷ zs) rest

-- Growth of what is declared is growth of the definitions.
pub definitions-grown : (old new : Declarations) → IsGrowth old new → IsGrown (definitions old) (definitions new)
definitions-grown old new growth = record {
  facets = keeps-extends old.facets new.facets growth.facets;
  fields = keeps-extends old.fields new.fields growth.fields;
  node_defs = keeps-extends old.node_defs new.node_defs growth.node_defs;
}

-- the definitions that a registry lends are those that it holds
pub lent-are : (defs : Defs Val) (d : Declarations) → AreDefs defs d → defs_of defs ≡ definitions d
lent-are defs d is = let a = is.facets_are in let b = is.fields_are in let c = is.node_defs_are in cc

pub growth-grown : (old_defs new_defs : Defs Val) (old new : Declarations) → AreDefs old_defs old → AreDefs new_defs new → IsGrowth old new → IsGrown (defs_of old_defs) (defs_of new_defs)
growth-grown old_defs new_defs old new was is growth = rw (lent-are old_defs old was, lent-are new_defs new is) (definitions-grown old new growth)

-- a value of a shape is of each shape that the shape fits into
ranges-fit : (f g : Form) → fits f g ≡ true → is_ranges f ≡ true → is_ranges g ≡ true
ranges-fit ranges ranges e h = refl
ranges-fit f g e h = cc

layers-fit : (f g : Form) → fits f g ≡ true → is_layers f ≡ true → is_layers g ≡ true
layers-fit layers layers e h = refl
layers-fit f g e h = cc

history-fits : (f g : Form) → fits f g ≡ true → is_history f ≡ true → is_history g ≡ true
history-fits history history e h = refl
history-fits f g e h = cc

shape-fits : (f g : Form) → fits f g ≡ true → (v : Val) → is_of f v ≡ true → is_of g v ≡ true
shape-fits f g e (val.Plain p) h = fits-sound f g e (datum_of p) h
shape-fits f g e (val.Ranges rs) h = ranges-fit f g e h
shape-fits f g e (val.Layers ls) h = layers-fit f g e h
shape-fits f g e (val.History k) h = history-fits f g e h

pub fits-in : (f g : Form) → fits f g ≡ true → FitsIn f g
fits-in f g e v is = record { shape = shape-fits f g e v is.shape; range = is.range }

-- the input nodes of a facet are inputs of it, and the node of a field is one of it
input-of : (f : ℕ) (o : Option Node) → is_id f (facet_in o) ≡ true → o ≡ Some (nodes.Input f)
input-of f None e = cc
input-of f (Some (nodes.Input g)) e = ap (λ (n : ℕ). Some (nodes.Input n)) (sym (eqb-true f g e))
input-of f (Some node) e = cc

field-of : (f : ℕ) (o : Option Node) → is_id f (field_in o) ≡ true → (o ≡ Some (nodes.Field f)) ⊎ (o ≡ Some (nodes.Init f))
field-of f None e = cc
field-of f (Some (nodes.Field g)) e = inl (ap (λ (n : ℕ). Some (nodes.Field n)) (sym (eqb-true f g e)))
field-of f (Some (nodes.Init g)) e = inr (ap (λ (n : ℕ). Some (nodes.Init n)) (sym (eqb-true f g e)))
field-of f (Some node) e = cc

module _ (arena : List Node) where
  -- what holds of each input of a facet holds of those in an order
  all-inputs : (P : ℕ → Type 0) (f : ℕ) → ((n : ℕ) → slice_get arena n ≡ Some (nodes.Input f) → P n) → (ns : List ℕ) → AllByRecursion P (inputs_of arena f ns)
  all-inputs P f each [] = tt
  all-inputs P f each (n ∷ ns) =
      elim (is_id f (facet_in (slice_get arena n)))
      as (λ b. is_id f (facet_in (slice_get arena n)) ≡ b → AllByRecursion P (cond b (n ∷ inputs_of arena f ns) (inputs_of arena f ns))) [
        | true ↦ λ e. (each n (input-of f (slice_get arena n) e), all-inputs P f each ns)
        | false ↦ λ e. all-inputs P f each ns
      ] refl

  node-is : (f : ℕ) (ns : List ℕ) (m : ℕ) → node_of_field arena f ns ≡ Some m → is_id f (field_in (slice_get arena m)) ≡ true
  node-is f [] m e = cc
  node-is f (n ∷ ns) m e =
      elim (is_id f (field_in (slice_get arena n)))
      as (λ b. is_id f (field_in (slice_get arena n)) ≡ b → cond b (Some n) (node_of_field arena f ns) ≡ Some m → is_id f (field_in (slice_get arena m)) ≡ true) [
        | true ↦ λ is at. subst (λ (k : ℕ). is_id f (field_in (slice_get arena k)) ≡ true) (some-same at) is
        | false ↦ λ is at. node-is f ns m at
      ] refl e

  -- the list of a facet has its inputs, and the node of a field is one of it
  lists-at : (P : ℕ → Type 0) (at : ℕ) → ((n : ℕ) → slice_get arena n ≡ Some (nodes.Input at) → P n) → (ns : List ℕ) (facets from f : ℕ) → from + f ≡ at
      → AllByRecursion P (get_or (map (λ (facet : ℕ). inputs_of arena facet ns) (range_with_len from facets)) f [])
  lists-at P at each ns zero from f same = tt
  lists-at P at each ns (suc facets) from zero same = let here : at ≡ from = omega arith in subst (λ (g : ℕ). AllByRecursion P (inputs_of arena g ns)) here (all-inputs P at each ns)
  lists-at P at each ns (suc facets) from (suc f) same = lists-at P at each ns facets (from + 1) f (omega arith)

  nodes-at : (at : ℕ) (ns : List ℕ) (fields from f m : ℕ) → from + f ≡ at → option_flatten (slice_get (map (λ (field : ℕ). node_of_field arena field ns) (range_with_len from fields)) f) ≡ Some m
      → is_id at (field_in (slice_get arena m)) ≡ true
  nodes-at at ns zero from f m same e = cc
  nodes-at at ns (suc fields) from zero m same e = let here : from ≡ at = omega arith in subst (λ (g : ℕ). is_id g (field_in (slice_get arena m)) ≡ true) here (node-is from ns m e)
  nodes-at at ns (suc fields) from (suc f) m same e = nodes-at at ns fields (from + 1) f m (omega arith) e

-- what holds of the nodes of a list holds of them with their definitions
over-nodes : (P : Option (NodeDef Val) → Type 0) (defs : List (NodeDef Val)) (ns : List ℕ) → AllByRecursion (λ (n : ℕ). P (slice_get defs n)) ns → AllByRecursion (λ (node : InputNode). P node.input) (map (input_node defs) ns)
over-nodes P defs [] h = tt
over-nodes P defs (n ∷ ns) h = (h.0, over-nodes P defs ns h.1)

over-inputs : (P : Vertex → Type 0) (defs : List (NodeDef Val)) (ns : List ℕ) → AllByRecursion (λ (n : ℕ). AllReads P (reads_of (slice_get defs n))) ns → AllInputs P (map (input_node defs) ns)
over-inputs P defs [] h = tt
over-inputs P defs (n ∷ ns) h = (h.0, over-inputs P defs ns h.1)

-- what the node of a field gives it
init-parts : (setup : Setup) (f m : ℕ) (o : Option FieldDef) (field : PresentField)
    → option_map (λ (def : FieldDef). record { def = def; init = init_of (slice_get setup.defs.node_defs m) }) o ≡ Some field → init_of (slice_get setup.defs.node_defs m) ≡ field.init
init-parts setup f m None field e = cc
init-parts setup f m (Some def) field e =
    let same : record { def = def; init = init_of (slice_get setup.defs.node_defs m) } ≡ field = some-same e in ap (λ (p : PresentField). p.init) same

-- definitions that stay as they are have grown
extends-same : {X : Type 0} (xs : List X) → Extends xs xs
extends-same [] = refl
extends-same {X} (x ∷ xs) = ap (λ (ys : List X). x ∷ ys) (extends-same xs)

pub grown-same : (defs : Definitions) → IsGrown defs defs
grown-same defs = record { facets = extends-same defs.facets; fields = extends-same defs.fields; node_defs = extends-same defs.node_defs }

-- over one registry, at a setup of its definitions
module _ (rules : Rules) (d : Declarations) (lawful : AreLawfulDeclarations rules d) where
  input-fits : (facet : FacetDef) (def : NodeDef Val) → IsInput rules d (Some facet) def → FitsCombiner rules facet.combine (Some def)
  input-fits facet node_def.Branch h = absurd h
  input-fits facet (node_def.Of v) h = h
  input-fits facet (node_def.Compute rule reads) h = (h.is_rule, fits-in (rules.compute_output rule) (rules.combine_input facet.combine) h.output_fits)
  input-fits facet (node_def.ComputeN rule reads) h = (h.is_rule, fits-in (rules.list_output rule) (rules.combine_input facet.combine) h.output_fits)
  input-fits facet (node_def.From field rule) h = (h.is_rule, fits-in (rules.compute_output rule) (rules.combine_input facet.combine) h.output_fits)
  input-fits facet node_def.Field h = absurd h
  input-fits facet (node_def.Init v) h = absurd h

  defined-fits : (facet : FacetDef) (f : ℕ) → slice_get d.facets f ≡ Some facet → (o : Option (NodeDef Val)) → IsDefined rules d (nodes.Input f) o → FitsCombiner rules facet.combine o
  defined-fits facet f at None h = absurd h
  defined-fits facet f at (Some def) h = input-fits facet def (subst (λ (o : Option FacetDef). IsInput rules d o def) at h)

  input-reads : (o : Option FacetDef) (def : NodeDef Val) → IsInput rules d o def → AllByRecursion (IsRead d) (reads_of (Some def))
  input-reads None def h = absurd h
  input-reads (Some facet) node_def.Branch h = absurd h
  input-reads (Some facet) (node_def.Of v) h = tt
  input-reads (Some facet) (node_def.Compute rule reads) h = h.reads
  input-reads (Some facet) (node_def.ComputeN rule reads) h = h.reads
  input-reads (Some facet) (node_def.From field rule) h = h.reads
  input-reads (Some facet) node_def.Field h = absurd h
  input-reads (Some facet) (node_def.Init v) h = absurd h

  defined-reads : (f : ℕ) (o : Option (NodeDef Val)) → IsDefined rules d (nodes.Input f) o → AllByRecursion (IsRead d) (reads_of o)
  defined-reads f None h = tt
  defined-reads f (Some def) h = input-reads (slice_get d.facets f) def h

  -- what an init gives is of the updater's shape, and other nodes of a field give nothing
  init-none : (f : ℕ) (P : Val → Type 0) (o : Option (NodeDef Val)) → IsDefined rules d (nodes.Field f) o → IfSome (init_of o) P
  init-none f P None h = tt
  init-none f P (Some node_def.Branch) h = tt
  init-none f P (Some (node_def.Of v)) h = tt
  init-none f P (Some (node_def.Compute rule reads)) h = tt
  init-none f P (Some (node_def.ComputeN rule reads)) h = tt
  init-none f P (Some (node_def.From field rule)) h = tt
  init-none f P (Some node_def.Field) h = tt
  init-none f P (Some (node_def.Init v)) h = absurd h

  init-fits : (f : ℕ) (def : FieldDef) → slice_get d.fields f ≡ Some def → (o : Option (NodeDef Val)) → IsDefined rules d (nodes.Init f) o → IfSome (init_of o) (IsOf (rules.update_shape def.update))
  init-fits f def at None h = tt
  init-fits f def at (Some node_def.Branch) h = tt
  init-fits f def at (Some (node_def.Of v)) h = tt
  init-fits f def at (Some (node_def.Compute rule reads)) h = tt
  init-fits f def at (Some (node_def.ComputeN rule reads)) h = tt
  init-fits f def at (Some (node_def.From field rule)) h = tt
  init-fits f def at (Some node_def.Field) h = tt
  init-fits f def at (Some (node_def.Init v)) h = subst (λ (o : Option FieldDef). IsInit rules o v) at h

  node-fits : (f m : ℕ) (def : FieldDef) → slice_get d.fields f ≡ Some def → is_id f (field_in (slice_get d.nodes m)) ≡ true → IfSome (init_of (slice_get d.node_defs m)) (IsOf (rules.update_shape def.update))
  node-fits f m def at is =
      ⊎_elim (λ node. init-none f (IsOf (rules.update_shape def.update)) (slice_get d.node_defs m) (lawful.nodes m (nodes.Field f) node))
      (λ node. init-fits f def at (slice_get d.node_defs m) (lawful.nodes m (nodes.Init f) node)) (field-of f (slice_get d.nodes m) is)

  module _ (config : ConfigView) (contents : List (ℕ × ℕ)) (base : List ℕ) (resolved : IsConfig (tree_of d.nodes contents d.links) d.facets d.fields d.node_defs base config) where
    -- the setup of the definitions
    abbrev setup : Setup
    setup = record { defs = definitions d; config = config }

    abbrev flat : List ℕ
    flat = flat_order (tree_of d.nodes contents d.links) base

    fields-many : length config.fields ≡ length d.fields
    fields-many = ap (λ (xs : List (Option ℕ)). length xs) resolved.fields_are ∙ numbers-length (λ (field : ℕ). node_of_field d.nodes field flat) 0 (length d.fields)

    reads-known : (reads : List Dependency) → AllByRecursion (IsRead d) reads → AllReads (IsVertex setup) reads
    reads-known [] h = tt
    reads-known (dependency.Doc ∷ reads) h = reads-known reads h.1
    reads-known (dependency.Selection ∷ reads) h = reads-known reads h.1
    reads-known (dependency.Facet f ∷ reads) h = (h.0, reads-known reads h.1)
    reads-known (dependency.Field f ∷ reads) h = (subst (λ (n : ℕ). f < n) (sym fields-many) h.0, reads-known reads h.1)

    -- what holds of each input of a facet holds of the present ones
    inputs-have : (P : ℕ → Type 0) (f : ℕ) → ((n : ℕ) → slice_get d.nodes n ≡ Some (nodes.Input f) → P n) → AllByRecursion P (get_or config.inputs f [])
    inputs-have P f each =
        subst (λ (xs : List (List ℕ)). AllByRecursion P (get_or xs f [])) (sym resolved.inputs_are) (lists-at d.nodes P f each flat (length d.facets) 0 f (omega arith))

    node-has : (f m : ℕ) → node_at setup f ≡ Some m → is_id f (field_in (slice_get d.nodes m)) ≡ true
    node-has f m at =
        nodes-at d.nodes f flat (length d.fields) 0 f m (omega arith) (subst (λ (xs : List (Option ℕ)). option_flatten (slice_get xs f) ≡ Some m) resolved.fields_are at)

    inputs-fit : (facet : FacetDef) (f : ℕ) → slice_get d.facets f ≡ Some facet → AllByRecursion (λ (node : InputNode). FitsCombiner rules facet.combine node.input) (inputs_at setup f)
    inputs-fit facet f at =
        over-nodes (FitsCombiner rules facet.combine) d.node_defs (get_or config.inputs f [])
        (inputs-have (λ (n : ℕ). FitsCombiner rules facet.combine (slice_get d.node_defs n)) f (λ n node. defined-fits facet f at (slice_get d.node_defs n) (lawful.nodes n (nodes.Input f) node)))

    inputs-read : (f : ℕ) → AllInputs (IsVertex setup) (inputs_at setup f)
    inputs-read f =
        over-inputs (IsVertex setup) d.node_defs (get_or config.inputs f [])
        (inputs-have (λ (n : ℕ). AllReads (IsVertex setup) (reads_of (slice_get d.node_defs n))) f
        (λ n node. reads-known (reads_of (slice_get d.node_defs n)) (defined-reads f (slice_get d.node_defs n) (lawful.nodes n (nodes.Input f) node))))

    facet-lawful : (f : ℕ) (facet : PresentFacet) → facet_at setup f ≡ Some facet → IsLawfulFacet rules facet
    facet-lawful f facet at =
        let parts = facet-parts setup f (slice_get d.facets f) facet at in
        let numbers = lawful.facets f facet.def parts.0 in
        record {
          combine = numbers.combine;
          compare_input = numbers.compare_input;
          compare = numbers.compare;
          inputs = subst (λ (is : List InputNode). AllByRecursion (λ (node : InputNode). FitsCombiner rules facet.def.combine node.input) is) (sym parts.1) (inputs-fit facet.def f parts.0);
        }

    -- a present field with its node
    field-lawful-at : (f : ℕ) (field : PresentField) (o : Option ℕ) → node_at setup f ≡ o → option_and_then (field_with setup f) o ≡ Some field → IsLawfulField rules field
    field-lawful-at f field None node at = cc
    field-lawful-at f field (Some m) node at =
        let def : slice_get d.fields f ≡ Some field.def = field-parts setup f (Some m) field at in
        let numbers = lawful.fields f field.def def in
        record {
          create = numbers.create;
          update = numbers.update;
          compare = numbers.compare;
          created = fits-in (rules.create_output field.def.create) (rules.update_shape field.def.update) numbers.created_fits;
          init = subst (λ (o : Option Val). IfSome o (IsOf (rules.update_shape field.def.update))) (init-parts setup f m (slice_get d.fields f) field at) (node-fits f m field.def def (node-has f m node));
        }

    field-lawful : (f : ℕ) (field : PresentField) → field_at setup f ≡ Some field → IsLawfulField rules field
    field-lawful f field at = field-lawful-at f field (node_at setup f) refl at

    facet-reads : (f : ℕ) (o : Option PresentFacet) → ((facet : PresentFacet) → o ≡ Some facet → AllInputs (IsVertex setup) facet.inputs) → MatchOption o ⊤ (λ (facet : PresentFacet). AllInputs (IsVertex setup) facet.inputs)
    facet-reads f None h = tt
    facet-reads f (Some facet) h = h facet refl

    field-reads : (f : ℕ) (o : Option PresentField) → ((field : PresentField) → o ≡ Some field → AllReads (IsVertex setup) field.def.reads) → MatchOption o ⊤ (λ (field : PresentField). AllReads (IsVertex setup) field.def.reads)
    field-reads f None h = tt
    field-reads f (Some field) h = h field refl

    declared-reads : (v : Vertex) → AllNeeds (IsVertex setup) setup v
    declared-reads (Facet f) =
        facet-reads f (facet_at setup f) (λ facet at. subst (AllInputs (IsVertex setup)) (sym (facet-parts setup f (slice_get d.facets f) facet at).1) (inputs-read f))
    declared-reads (Field f) =
        field-reads f (field_at setup f) (λ field at. reads-known field.def.reads (lawful.fields f field.def (field-parts setup f (node_at setup f) field at)).reads)

    declared-lawful : IsLawful rules setup
    declared-lawful = record { facets = facet-lawful; fields = field-lawful; reads = declared-reads }

    declared-over : IsResolvedOver setup.defs setup
    declared-over = record {
      tree = tree_of d.nodes contents d.links;
      base = base;
      config = resolved;
      defined = let same = lawful.aligned.node_defs in omega arith;
      reads = declared-reads;
    }

    declared-resolved : IsResolved setup
    declared-resolved = record { defs = setup.defs; over = declared-over; grown = grown-same setup.defs }

-- Setup of a configuration that was resolved over what is declared: it is lawful, and it is resolved.
module _ (rules : Rules) (d : Declarations) (lawful : AreLawfulDeclarations rules d) (defs : Defs Val) (is : AreDefs defs d) (arena : List Node) (same : arena ≡ d.nodes) (contents : List (ℕ × ℕ)) (base : List ℕ) (config : ConfigView)
    (resolved : IsConfig (tree_of arena contents defs.links) defs.facets defs.fields defs.node_defs base config) where
  over-declared : IsConfig (tree_of d.nodes contents d.links) d.facets d.fields d.node_defs base config
  over-declared = rw (← same, ← is.links_are, ← is.facets_are, ← is.fields_are, ← is.node_defs_are) resolved

  pub setup-lawful : IsLawful rules (record { defs = defs_of defs; config = config })
  setup-lawful = subst (λ (k : Definitions). IsLawful rules (record { defs = k; config = config })) (sym (lent-are defs d is)) (declared-lawful rules d lawful config contents base over-declared)

  pub setup-resolved : IsResolved (record { defs = defs_of defs; config = config })
  setup-resolved = subst (λ (k : Definitions). IsResolved (record { defs = k; config = config })) (sym (lent-are defs d is)) (declared-resolved rules d lawful config contents base over-declared)

-- Setup of an older configuration over what was declared since: it stays lawful.
module _ (rules : Rules) (d : Declarations) (lawful : AreLawfulDeclarations rules d) (defs : Defs Val) (is : AreDefs defs d) (old : Setup) (resolved : IsResolved old) (grown : IsGrown old.defs (defs_of defs)) (law : IsLawful rules old) where
  abbrev later : Setup
  later = record { defs = defs_of defs; config = old.config }

  continued : IsContinued old later
  continued = grown-continued old.defs (defs_of defs) old.config (resolved-formed old resolved) grown

  later-facet : (f : ℕ) (facet : PresentFacet) → facet_at later f ≡ Some facet → (o : Option PresentFacet) → facet_at old f ≡ o → IsLawfulFacet rules facet
  later-facet f facet at None none =
      let parts = facet-parts later f (slice_get defs.facets f) facet at in
      let numbers = lawful.facets f facet.def (ap (λ (xs : List FacetDef). slice_get xs f) (sym is.facets_are) ∙ parts.0) in
      record {
        combine = numbers.combine;
        compare_input = numbers.compare_input;
        compare = numbers.compare;
        inputs = subst (λ (is : List InputNode). AllByRecursion (λ (node : InputNode). FitsCombiner rules facet.def.combine node.input) is) (sym (continued.new_facets f facet none at)) tt;
      }
  later-facet f facet at (Some was) there = law.facets f facet (there ∙ sym (continued.facets f was there) ∙ at)

  later-field : (f : ℕ) (field : PresentField) → field_at later f ≡ Some field → IsLawfulField rules field
  later-field f field at = law.fields f field (sym (continued.fields f) ∙ at)

  -- what is named is still there
  later-vertex : (v : Vertex) → IsVertex old v → IsVertex later v
  later-vertex (Facet f) inside = let more = longer old.defs.facets defs.facets grown.facets in omega arith
  later-vertex (Field f) inside = inside

  reads-later : (reads : List Dependency) → AllReads (IsVertex old) reads → AllReads (IsVertex later) reads
  reads-later [] h = tt
  reads-later (dependency.Doc ∷ reads) h = reads-later reads h
  reads-later (dependency.Selection ∷ reads) h = reads-later reads h
  reads-later (dependency.Facet f ∷ reads) h = (later-vertex (Facet f) h.0, reads-later reads h.1)
  reads-later (dependency.Field f ∷ reads) h = (later-vertex (Field f) h.0, reads-later reads h.1)

  inputs-later : (is : List InputNode) → AllInputs (IsVertex old) is → AllInputs (IsVertex later) is
  inputs-later [] h = tt
  inputs-later (i ∷ is) h = (reads-later (reads_of i.input) h.0, inputs-later is h.1)

  facet-needs : (f : ℕ) (o new : Option PresentFacet) → facet_at old f ≡ o → facet_at later f ≡ new → MatchOption o ⊤ (λ (facet : PresentFacet). AllInputs (IsVertex old) facet.inputs) → MatchOption new ⊤ (λ (facet : PresentFacet). AllInputs (IsVertex later) facet.inputs)
  facet-needs f o None there at h = tt
  facet-needs f None (Some facet) there at h = subst (AllInputs (IsVertex later)) (sym (continued.new_facets f facet there at)) tt
  facet-needs f (Some was) (Some facet) there at h =
      let same : was ≡ facet = some-same (sym (continued.facets f was there) ∙ at) in subst (λ (k : PresentFacet). AllInputs (IsVertex later) k.inputs) same (inputs-later was.inputs h)

  field-needs : (o : Option PresentField) → MatchOption o ⊤ (λ (field : PresentField). AllReads (IsVertex old) field.def.reads) → MatchOption o ⊤ (λ (field : PresentField). AllReads (IsVertex later) field.def.reads)
  field-needs None h = tt
  field-needs (Some field) h = reads-later field.def.reads h

  later-needs : (v : Vertex) → AllNeeds (IsVertex later) later v
  later-needs (Facet f) = facet-needs f (facet_at old f) (facet_at later f) refl refl (law.reads (Facet f))
  later-needs (Field f) = subst (λ (o : Option PresentField). MatchOption o ⊤ (λ (field : PresentField). AllReads (IsVertex later) field.def.reads)) (sym (continued.fields f)) (field-needs (field_at old f) (law.reads (Field f)))

  pub later-lawful : IsLawful rules later
  later-lawful = record { facets = λ f facet at. later-facet f facet at (facet_at old f) refl; fields = later-field; reads = later-needs }
