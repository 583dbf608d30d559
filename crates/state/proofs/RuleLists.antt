-- The facets of rule numbers have lists of numbers of their sorts.
use Rattle.std.proofs.Common.{◌≡◌, ◌∙◌, ◌&&◌, ℕ, pos, List, [], ◌∷◌, map, Bool, true, false, All, Option, None, Some, IfSome, IsSomeAnd, option_map, slice_get, refl, sym, ap, subst, arith}
use Rattle.std.proofs.lemmas.List.Elements.{All-head, All-tail}
use Rattle.cm_plain.specs.Datum.{data_of, number}
use Rattle.cm_plain.specs.Form.{Form, hold, holds, numbers}
use Rattle.cm_plain.specs.declared.plain.Plain.TheVariants as plain
use Rattle.configuration.specs.declared.facet_def.FacetDef.{FacetDef}
use Rattle.configuration.specs.declared.vertex.Vertex.TheVariants.{Facet, Field}
use Rattle.registry.specs.Predeclared.{combined_by, predeclared, predeclared_facets}
use Rattle.values.specs.declared.val.Val.{Val}
use Rattle.values.specs.declared.val.Val.TheVariants.{Plain, Ranges, Layers, History}
use Rattle.values.specs.Combining.{list_of_inputs}
use Rattle.values.specs.InRange.{IsInRange}
use Rattle.values.specs.Reading.{item, plain_or_unit}
use Rattle.values.specs.Rules.{AreLawful, Rules}
use Rattle.values.specs.Shipped.{KeepsShipped}
use Rattle.values.specs.Vals.{IsOf, is_of}
use Rattle.filters.specs.Facets.{AreFacets, FacetsView, ListsNumbers}
use Rattle.facet_slots.specs.Agreement.{IsGrown}
use Rattle.facet_slots.specs.FacetValues.{facet_value, joined, node_outputs}
use Rattle.facet_slots.specs.Lawful.{FacetsFit, FieldsFit, IsLawful}
use Rattle.facet_slots.specs.Lent.{definitions}
use Rattle.facet_slots.specs.Scenes.{IsEachInRange, IsScene, SceneView, Values}
use Rattle.facet_slots.specs.Setups.{PresentFacet, PresentField, Setup, facet_at, field_at, inputs_at}
use Rattle.facet_slots.proofs.Fitting.{joined_fit}
use Rattle.facet_slots.proofs.Growing.{stays-got}

both : (a b : Bool) → a ≡ true → b ≡ true → (a && b) ≡ true
both true b p q = q
both false b p q = p

-- numbers of a sort
abbrev numbers_to : ℕ → Form
numbers_to count = numbers (pos 1) (pos count)

-- inputs that are numbers of a sort are listed as such
listed : (count : ℕ) (vs : List Val) → All (IsOf (numbers_to count)) vs → hold (data_of (map (λ v. item (plain_or_unit v)) vs)) (numbers_to count) ≡ true
listed count [] a = refl
listed count (Plain (plain.Int z) ∷ vs) a =
    both (holds (number z) (numbers_to count)) (hold (data_of (map (λ v. item (plain_or_unit v)) vs)) (numbers_to count)) ((All-head (IsOf (numbers_to count)) (Plain (plain.Int z)) vs a).shape) (listed count vs (All-tail (IsOf (numbers_to count)) (Plain (plain.Int z)) vs a))
listed count (Plain plain.Unit ∷ vs) a = let h : is_of (numbers_to count) (Plain plain.Unit) ≡ true = (All-head (IsOf (numbers_to count)) (Plain plain.Unit) vs a).shape in cc
listed count (Plain (plain.Bool b) ∷ vs) a = let h : is_of (numbers_to count) (Plain (plain.Bool b)) ≡ true = (All-head (IsOf (numbers_to count)) (Plain (plain.Bool b)) vs a).shape in cc
listed count (Plain (plain.Text s) ∷ vs) a = let h : is_of (numbers_to count) (Plain (plain.Text s)) ≡ true = (All-head (IsOf (numbers_to count)) (Plain (plain.Text s)) vs a).shape in cc
listed count (Plain (plain.List ds) ∷ vs) a = let h : is_of (numbers_to count) (Plain (plain.List ds)) ≡ true = (All-head (IsOf (numbers_to count)) (Plain (plain.List ds)) vs a).shape in cc
listed count (Ranges rs ∷ vs) a = let h : is_of (numbers_to count) (Ranges rs) ≡ true = (All-head (IsOf (numbers_to count)) (Ranges rs) vs a).shape in cc
listed count (Layers ls ∷ vs) a = let h : is_of (numbers_to count) (Layers ls) ≡ true = (All-head (IsOf (numbers_to count)) (Layers ls) vs a).shape in cc
listed count (History hs ∷ vs) a = let h : is_of (numbers_to count) (History hs) ≡ true = (All-head (IsOf (numbers_to count)) (History hs) vs a).shape in cc

in-range : (f : Form) (o : Option Val) → IsSomeAnd o (IsOf f) → IfSome o IsInRange
in-range f None h = absurd h
in-range f (Some v) h = h.range

some-back : {X : Type 0} {x y : X} → Some x ≡ Some y → x ≡ y
some-back e = cc

module _ (rules : Rules) (setup : Setup) (scene : SceneView) (values : Values) (combined : (f : ℕ) → values (Facet f) ≡ option_map (facet_value rules scene values) (facet_at setup f)) where
  facet-in-range : FacetsFit rules setup values → (f : ℕ) (o : Option PresentFacet) → facet_at setup f ≡ o → IfSome (values (Facet f)) IsInRange
  facet-in-range fits f None e = subst (λ (o : Option Val). IfSome o IsInRange) (sym (combined f ∙ ap (option_map (facet_value rules scene values)) e)) tt
  facet-in-range fits f (Some facet) e = in-range (rules.combine_output facet.def.combine) (values (Facet f)) (fits f facet e)

  field-in-range : FieldsFit rules setup values → ((f : ℕ) → field_at setup f ≡ None → values (Field f) ≡ None) → (f : ℕ) (o : Option PresentField) → field_at setup f ≡ o → IfSome (values (Field f)) IsInRange
  field-in-range fits absent f None e = subst (λ (o : Option Val). IfSome o IsInRange) (sym (absent f e)) tt
  field-in-range fits absent f (Some field) e = in-range (rules.update_shape field.def.update) (values (Field f)) (fits f field e)

  -- the numbers of all values are in range
  each-in-range : FacetsFit rules setup values → FieldsFit rules setup values → ((f : ℕ) → field_at setup f ≡ None → values (Field f) ≡ None) → IsEachInRange values
  each-in-range facets fields absent (Facet f) = facet-in-range facets f (facet_at setup f) refl
  each-in-range facets fields absent (Field f) = field-in-range fields absent f (field_at setup f) refl

  module _ (law : AreLawful rules) (lawful : IsLawful rules setup) (fine : IsScene scene) (each : IsEachInRange values) where
    -- a facet that lists inputs, which are numbers of a sort
    lists-numbers : (f n count : ℕ) → slice_get setup.defs.facets f ≡ Some (combined_by n false) → rules.combine_input n ≡ numbers_to count → rules.combine n ≡ list_of_inputs → (v : Val) → values (Facet f) ≡ Some v → ListsNumbers count v
    lists-numbers f n count known input combine v e =
        let facet : PresentFacet = record { def = combined_by n false; inputs = inputs_at setup f } in
        let at : facet_at setup f ≡ Some facet = ap (option_map (λ (def : FacetDef). record { def = def; inputs = inputs_at setup f })) known in
        let outs : List Val = joined (map (node_outputs rules scene values) facet.inputs) in
        let fits : All (IsOf (numbers_to count)) outs = subst (λ (form : Form). All (IsOf form) outs) input (joined_fit rules law n scene fine values each facet.inputs (lawful.facets f facet at).inputs) in
        let is : v ≡ list_of_inputs outs = some-back (sym e ∙ combined f ∙ ap (option_map (facet_value rules scene values)) at) ∙ ap (λ (c : List Val → Val). c outs) combine in
        subst (ListsNumbers count) (sym is) (listed count outs fits)

    pub are-facets : KeepsShipped rules → IsGrown (definitions predeclared) setup.defs → (facets : FacetsView) → values (Facet 4) ≡ Some facets.change_filter → values (Facet 5) ≡ Some facets.transaction_filter → values (Facet 6) ≡ Some facets.transaction_extender → AreFacets rules facets
    are-facets keeps grown facets p q r = record {
      guards = lists-numbers 4 9 rules.change_guards (stays-got predeclared_facets setup.defs.facets grown.facets 4 (combined_by 9 false) refl) (keeps.combine_input.kept 9 (record { low = omega arith; high = omega arith })) (keeps.combine.kept 9 (record { low = omega arith; high = omega arith })) facets.change_filter p;
      filters = lists-numbers 5 10 rules.transaction_filters (stays-got predeclared_facets setup.defs.facets grown.facets 5 (combined_by 10 false) refl) (keeps.combine_input.kept 10 (record { low = omega arith; high = omega arith })) (keeps.combine.kept 10 (record { low = omega arith; high = omega arith })) facets.transaction_filter q;
      extenders = lists-numbers 6 11 rules.extenders (stays-got predeclared_facets setup.defs.facets grown.facets 6 (combined_by 11 false) refl) (keeps.combine_input.kept 11 (record { low = omega arith; high = omega arith })) (keeps.combine.kept 11 (record { low = omega arith; high = omega arith })) facets.transaction_extender r;
    }

-- the values of the facets that filters go by list numbers of their sorts
pub facets-known : (rules : Rules) → AreLawful rules → KeepsShipped rules → (setup : Setup) (scene : SceneView) (values : Values) → IsLawful rules setup → IsScene scene → FacetsFit rules setup values → FieldsFit rules setup values
    → ((f : ℕ) → values (Facet f) ≡ option_map (facet_value rules scene values) (facet_at setup f)) → ((f : ℕ) → field_at setup f ≡ None → values (Field f) ≡ None) → IsGrown (definitions predeclared) setup.defs
    → (facets : FacetsView) → values (Facet 4) ≡ Some facets.change_filter → values (Facet 5) ≡ Some facets.transaction_filter → values (Facet 6) ≡ Some facets.transaction_extender → AreFacets rules facets
facets-known rules law keeps setup scene values lawful fine fit fields combined absent grown facets p q r =
    are-facets rules setup scene values combined law lawful fine (each-in-range rules setup scene values combined fit fields absent) keeps grown facets p q r
