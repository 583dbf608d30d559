-- What is found of a facet, as the next facet.
use Rattle.std.proofs.Common.{◌≡◌, ◌≤◌, ◌+◌, ◌∙◌, ℕ, List, Bool, true, false, not, ◌&&◌, ◌||◌, cond, Some, is_none, [], ◌∷◌, map, refl, sym, ap, arith, All, Option, IsSomeAnd, subst}
use Rattle.std.specs.Option.{option_map, unwrap_or}
use Rattle.std.specs.List.{list_any, AllByRecursion}
use Rattle.configuration.specs.declared.vertex.Vertex.{Vertex}
use Rattle.configuration.specs.declared.vertex.Vertex.TheVariants.{Facet}
use Rattle.values.specs.declared.val.Val.{Val}
use Rattle.values.specs.Rules.{Rules, AreLawful}
use Rattle.values.specs.Vals.{IsOf}
use Rattle.facet_slots.specs.Setups.{Setup, InputNode, PresentFacet, PresentField, facet_at}
use Rattle.facet_slots.specs.Scenes.{SceneView, IsScene, IsEachInRange, Values}
use Rattle.facet_slots.specs.FacetValues.{node_outputs, joined}
use Rattle.facet_slots.specs.Stepping.{State, Transition, Enter, Update, kept_value}
use Rattle.facet_slots.specs.Lawful.{FitsCombiner}
use Rattle.facet_slots.specs.declared.scene_flags.SceneFlags.{SceneFlags}
use Rattle.facet_slots.specs.Flags.{Flags, same_nodes}
use Rattle.facet_slots.specs.Due.{call_of, calls_of, field_calls}
use Rattle.facet_slots.specs.Nexts.{next_outputs, next_changed, next_due, next_count, facet_next_calls, next_calls, IsNextFacet, IsNext}
use Rattle.facet_slots.proofs.Fitting.{outputs_fit}

module _ (rules : Rules) (scene : SceneView) (moved : SceneFlags) (flags : Flags) (values : Values) (was : PresentFacet) (kept : List (List Val)) (facet : PresentFacet) where
  abbrev any-changed : Bool
  any-changed = list_any (next_changed rules scene moved flags values facet.def.compare_input was.inputs kept) facet.inputs

  abbrev all-due : Bool
  all-due = next_due rules scene moved flags values (Some was) kept facet

  due-is : (changed due : Bool) → changed ≡ any-changed → due ≡ (changed || not (same_nodes was.inputs facet.inputs)) → due ≡ all-due
  due-is changed due e d = d ∙ ap (λ (b : Bool). b || not (same_nodes was.inputs facet.inputs)) e

  -- a facet that is combined anew
  pub facet-combined : (old value : Val) (flag : Bool) (inputs : List (List Val)) (changed : Bool) → inputs ≡ map (next_outputs rules scene moved flags values was.inputs kept) facet.inputs → changed ≡ any-changed
      → true ≡ (changed || not (same_nodes was.inputs facet.inputs)) → value ≡ rules.combine facet.def.combine (joined inputs) → flag ≡ not (rules.compare facet.def.compare old value)
      → IsNextFacet rules scene moved flags values (Some was) kept (Some old) facet value flag inputs
  facet-combined old value flag inputs changed ins e d v f =
      let due : true ≡ all-due = due-is changed true e d in
      record {
        inputs_are = ins;
        value_is = v ∙ ap (λ (b : Bool). cond b (rules.combine facet.def.combine (joined inputs)) old) due;
        flag_is = f ∙ ap (λ (b : Bool). b && not (rules.compare facet.def.compare old value)) due;
      }

  -- and one that is kept
  pub facet-kept : (old value : Val) (inputs : List (List Val)) (changed : Bool) → inputs ≡ map (next_outputs rules scene moved flags values was.inputs kept) facet.inputs → changed ≡ any-changed
      → false ≡ (changed || not (same_nodes was.inputs facet.inputs)) → value ≡ old
      → IsNextFacet rules scene moved flags values (Some was) kept (Some old) facet value false inputs
  facet-kept old value inputs changed ins e d v =
      let due : false ≡ all-due = due-is changed false e d in
      record {
        inputs_are = ins;
        value_is = v ∙ ap (λ (b : Bool). cond b (rules.combine facet.def.combine (joined inputs)) old) due;
        flag_is = ap (λ (b : Bool). b && not (rules.compare facet.def.compare old value)) due;
      }

  -- one call for the combiner, where it is due
  pub combined-cost : (changed : Bool) (calls before : ℕ) → changed ≡ any-changed → true ≡ (changed || not (same_nodes was.inputs facet.inputs)) → calls ≤ before + next_count moved flags was.inputs kept facet.inputs + 1
      → calls ≤ before + (next_count moved flags was.inputs kept facet.inputs + cond all-due 1 0)
  combined-cost changed calls before e d le =
      let single : ℕ = 1 in let one : single ≡ cond all-due 1 0 = ap (λ (b : Bool). cond b 1 0) (due-is changed true e d) in omega (arith, le, one)

-- of a facet that was declared since, each computed input is due
pub all-new : (moved : SceneFlags) (flags : Flags) (kept : List (List Val)) (is : List InputNode) → next_count moved flags [] kept is ≡ calls_of is
all-new moved flags kept [] = refl
all-new moved flags kept (i ∷ is) = ap (λ (n : ℕ). call_of i.input + n) (all-new moved flags kept is)

-- what is kept of a facet's inputs fits its combiner
pub kept_fit : (rules : Rules) → AreLawful rules → (n : ℕ) (scene : SceneView) → IsScene scene → (values : Values) → IsEachInRange values → (is : List InputNode) → AllByRecursion (λ (node : InputNode). FitsCombiner rules n node.input) is → AllByRecursion (λ k. All (IsOf (rules.combine_input n)) k) (map (node_outputs rules scene values) is)
kept_fit rules lawful n scene fine values each [] h = tt
kept_fit rules lawful n scene fine values each (i ∷ is) h = (outputs_fit rules lawful n scene fine values each i.input h.0, kept_fit rules lawful n scene fine values each is h.1)

-- one call at most for a field
pub one-at-most : (transition : Transition) (old : State) (f : ℕ) (field : PresentField) → field_calls transition old f field ≤ 1
one-at-most Enter old f field =
    elim (is_none (kept_value old f field)) as (λ b. cond b (cond (is_none field.init) 1 0) 0 ≤ 1) [ true ↦ elim (is_none field.init) as (λ b. cond b 1 0 ≤ 1) [ true ↦ omega arith | false ↦ omega arith ] | false ↦ omega arith ]
one-at-most (Update t) old f field = omega arith

some-same : {X : Type 0} {x y : X} → Some x ≡ Some y → x ≡ y
some-same e = cc

-- a facet after a transition, as a vertex
pub next-vertex : (rules : Rules) (transition : Transition) (setup : Setup) (scene : SceneView) (moved : SceneFlags) (flags : Flags) (values : Values) (old : State) (kept : Vertex → List (List Val)) (f : ℕ) (o : Option PresentFacet) (facet : PresentFacet) (value : Option Val) (flag : Bool) (inputs : List (List Val))
    → facet_at old.setup f ≡ o → facet_at setup f ≡ Some facet → IsSomeAnd value (λ x. IsNextFacet rules scene moved flags values o (kept (Facet f)) (old.values (Facet f)) facet x flag inputs)
    → IsNext rules transition setup scene moved flags values old kept (Facet f) value flag inputs
next-vertex rules transition setup scene moved flags values old kept f o facet value flag inputs was at next facet' at' =
    subst (λ (p : Option PresentFacet). IsSomeAnd value (λ x. IsNextFacet rules scene moved flags values p (kept (Facet f)) (old.values (Facet f)) facet' x flag inputs)) (sym was)
    (subst (λ (d : PresentFacet). IsSomeAnd value (λ x. IsNextFacet rules scene moved flags values o (kept (Facet f)) (old.values (Facet f)) d x flag inputs)) (some-same (sym at ∙ at')) next)

-- and its calls
pub next-vertex-calls : (rules : Rules) (transition : Transition) (setup : Setup) (scene : SceneView) (moved : SceneFlags) (flags : Flags) (values : Values) (old : State) (kept : Vertex → List (List Val)) (f : ℕ) (o : Option PresentFacet) (facet : PresentFacet)
    → facet_at old.setup f ≡ o → facet_at setup f ≡ Some facet → facet_next_calls rules scene moved flags values o (kept (Facet f)) facet ≡ next_calls rules transition setup scene moved flags values old kept (Facet f)
next-vertex-calls rules transition setup scene moved flags values old kept f o facet was at =
    ap (λ (p : Option PresentFacet). facet_next_calls rules scene moved flags values p (kept (Facet f)) facet) (sym was)
    ∙ ap (λ (p : Option PresentFacet). unwrap_or (option_map (facet_next_calls rules scene moved flags values (facet_at old.setup f) (kept (Facet f))) p) 0) (sym at)
