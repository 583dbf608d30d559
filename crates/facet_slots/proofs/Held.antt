-- What is found along an order is of one state.
use Rattle.std.proofs.Common.{◌≡◌, ◌<◌, ◌∙◌, ℕ, zero, suc, List, [], ◌∷◌, Bool, true, false, cond, eqb, filter, Option, None, Some, length, slice_get, map, MatchOption, refl, sym, ap, subst, ⊎_elim, arith, IsSomeAnd, IfSome}
use Rattle.std.proofs.Math.Path.{fun_ext}
use Rattle.std.specs.Option.{option_map, option_and_then, option_flatten, unwrap_or}
use Rattle.std.specs.List.{AllByRecursion, list_any}
use Rattle.std.proofs.lemmas.Option.{slice_get_cases}
use Rattle.configuration.specs.declared.field_def.FieldDef.{FieldDef}
use Rattle.configuration.specs.declared.vertex.Vertex.{Vertex}
use Rattle.configuration.specs.declared.vertex.Vertex.TheVariants.{Facet, Field}
use Rattle.values.specs.declared.val.Val.{Val}
use Rattle.values.specs.Rules.{Rules, AreLawful}
use Rattle.values.specs.Reading.{nothing}
use Rattle.values.specs.Vals.{IsOf}
use Rattle.values.specs.InRange.{IsInRange, IsShownInRange}
use Rattle.values.specs.declared.shown_effect.ShownEffect.{ShownEffect}
use Rattle.values.specs.Views.{AreDeps, DepsView, IsTransaction, TransactionView}
use Rattle.facet_slots.specs.Setups.{Setup, PresentFacet, PresentField, facet_at, field_at, order_of, vertex_count}
use Rattle.facet_slots.specs.Scenes.{SceneView, IsScene, IsEachInRange, Values, shown}
use Rattle.facet_slots.specs.FacetValues.{node_outputs, facet_value, joined}
use Rattle.facet_slots.specs.Settling.{FieldRule, field_value, round, rounds, values_of}
use Rattle.facet_slots.specs.Stepping.{State, Transition, Enter, Update, created, equal_init, heard, rule_of}
use Rattle.facet_slots.specs.Making.{IsMadeIn}
use Rattle.facet_slots.specs.Order.{AllInputs, AllNeeds, StandsBefore, IsVertex, IsOrdered}
use Rattle.facet_slots.specs.Lawful.{IsLawfulFacet, IsLawfulField, IsLawful, FieldsFit}
use Rattle.facet_slots.specs.Agreement.{Follows}
use Rattle.facet_slots.specs.Keeping.{held, held_inputs, inputs_of, HasRoom, IsKept, AreKnown}
use Rattle.facet_slots.proofs.Rounds.{AllNeeds-weaker, round-local, inputs-same, settled-once}
use Rattle.facet_slots.proofs.Places.{facet-cases, field-cases}
use Rattle.facet_slots.proofs.Fitting.{joined_fit, shown-is}

abbrev pub record_state : Setup → SceneView → Values → State
record_state setup scene values = record { setup = setup; scene = scene; values = values }

module _ (rules : Rules) (setup : Setup) (scene : SceneView) (a b : Values) where
  facet-inputs-same : (o : Option PresentFacet) → MatchOption o (Unit {0}) (λ (d : PresentFacet). AllInputs (λ w. a w ≡ b w) d.inputs)
      → unwrap_or (option_map (λ (d : PresentFacet). map (node_outputs rules scene a) d.inputs) o) [] ≡ unwrap_or (option_map (λ (d : PresentFacet). map (node_outputs rules scene b) d.inputs) o) []
  facet-inputs-same None h = refl
  facet-inputs-same (Some d) h = inputs-same rules setup scene (λ f field s. nothing) a b d.inputs h

  -- a vertex has the same inputs in values that agree on what it depends on
  pub inputs_of-same : (v : Vertex) → AllNeeds (λ w. a w ≡ b w) setup v → inputs_of rules setup scene a v ≡ inputs_of rules setup scene b v
  inputs_of-same (Facet f) h = facet-inputs-same (facet_at setup f) h
  inputs_of-same (Field f) h = refl

module _ (rules : Rules) (setup : Setup) (ordered : IsOrdered setup) (scene : SceneView) (rule : FieldRule) where
  -- the inputs of the next vertex, from slots that hold the values before it
  pub inputs-next : (values : Values) (i : ℕ) (v : Vertex) → slice_get (order_of setup) i ≡ Some v → AreKnown setup values (values_of rules setup scene rule) i
      → inputs_of rules setup scene values v ≡ inputs_of rules setup scene (values_of rules setup scene rule) v
  inputs-next values i v at known =
      inputs_of-same rules setup scene values (values_of rules setup scene rule) v
      (AllNeeds-weaker (StandsBefore (order_of setup) i) (λ w. values w ≡ values_of rules setup scene rule w) (λ w before. known before.0 w before.1 before.2) setup v (ordered.after i v at))

  pub facet-beyond : (f : ℕ) → facet_at setup f ≡ None → (n : ℕ) → rounds (round rules setup scene rule) None n (Facet f) ≡ None
  facet-beyond f none zero = refl
  facet-beyond f none (suc n) = ap (option_map (facet_value rules scene (rounds (round rules setup scene rule) None n))) none

  abbrev field-given : Values → ℕ → Option PresentField → Option Val
  field-given values f o = option_map (field_value scene rule values f) o

  pub field-beyond : (f : ℕ) → field_at setup f ≡ None → (n : ℕ) → rounds (round rules setup scene rule) None n (Field f) ≡ None
  field-beyond f none zero = refl
  field-beyond f none (suc n) = ap (field-given (rounds (round rules setup scene rule) None n) f) none

  known-settled : (v : Vertex) → IsVertex setup v → values_of rules setup scene rule v ≡ round rules setup scene rule (values_of rules setup scene rule) v
  known-settled v is = let at = ordered.complete v is in settled-once setup (round rules setup scene rule) None (round-local rules setup scene rule) ordered at.0 v at.1 at.2

  -- a further round changes nothing, at any facet or field
  pub settled-at : (v : Vertex) → values_of rules setup scene rule v ≡ round rules setup scene rule (values_of rules setup scene rule) v
  settled-at (Facet f) =
      ⊎_elim (λ inside. known-settled (Facet f) inside)
      (λ past. facet-beyond f past.1 (vertex_count setup) ∙ sym (ap (option_map (facet_value rules scene (values_of rules setup scene rule))) past.1)) (facet-cases setup f)
  settled-at (Field f) =
      ⊎_elim (λ inside. known-settled (Field f) inside)
      (λ past. field-beyond f past.1 (vertex_count setup) ∙ sym (ap (λ o. field-given (values_of rules setup scene rule) f o) past.1)) (field-cases setup f)

  beyond : {X : Type 0} (xs : List (Option X)) (i n : ℕ) → length xs ≡ n → ¬ (i < n) → option_flatten (slice_get xs i) ≡ None
  beyond xs i n e out = ⊎_elim (λ found. absurd (out (omega (arith, found.1, e)))) (λ past. ap option_flatten past.1) ((slice_get_cases xs i).1)

  -- what is held right along the order is held right
  pub held-at : (facets fields : List (Option Val)) (inputs : List (List (List Val))) → HasRoom setup facets fields inputs
      → AreKnown setup (held facets fields) (values_of rules setup scene rule) (length (order_of setup)) → (v : Vertex) → held facets fields v ≡ values_of rules setup scene rule v
  held-at facets fields inputs room known (Facet f) =
      ⊎_elim (λ inside. let at = ordered.complete (Facet f) inside in known at.0 (Facet f) at.1 at.2)
      (λ past. beyond facets f (length setup.defs.facets) room.facets_fit (λ lt. omega (arith, lt, past.0)) ∙ sym (facet-beyond f past.1 (vertex_count setup))) (facet-cases setup f)
  held-at facets fields inputs room known (Field f) =
      ⊎_elim (λ inside. let at = ordered.complete (Field f) inside in known at.0 (Field f) at.1 at.2)
      (λ past. beyond fields f (length setup.config.fields) room.fields_fit (λ lt. omega (arith, lt, past.0)) ∙ sym (field-beyond f past.1 (vertex_count setup))) (field-cases setup f)

  pub held-is : (facets fields : List (Option Val)) (inputs : List (List (List Val))) → HasRoom setup facets fields inputs
      → AreKnown setup (held facets fields) (values_of rules setup scene rule) (length (order_of setup)) → held facets fields ≡ values_of rules setup scene rule
  held-is facets fields inputs room known = fun_ext (held-at facets fields inputs room known)

  inputs-at : (facets fields : List (Option Val)) (inputs : List (List (List Val))) → HasRoom setup facets fields inputs
      → AreKnown setup (held_inputs inputs) (inputs_of rules setup scene (values_of rules setup scene rule)) (length (order_of setup)) → (f : ℕ) → held_inputs inputs (Facet f) ≡ inputs_of rules setup scene (values_of rules setup scene rule) (Facet f)
  inputs-at facets fields inputs room known f =
      ⊎_elim (λ inside. let at = ordered.complete (Facet f) inside in known at.0 (Facet f) at.1 at.2)
      (λ past. ⊎_elim (λ found. absurd (omega (arith, found.1, past.0, room.inputs_fit)))
      (λ none. ap (λ (o : Option (List (List Val))). unwrap_or o []) none.1 ∙ sym (ap (λ (o : Option PresentFacet). unwrap_or (option_map (λ (facet : PresentFacet). map (node_outputs rules scene (values_of rules setup scene rule)) facet.inputs) o) []) past.1))
      ((slice_get_cases inputs f).1)) (facet-cases setup f)

  -- the rule gives what fits the updater
  abbrev pub RuleFits : Type 0
  RuleFits = (f : ℕ) (field : PresentField) → field_at setup f ≡ Some field → (seen : DepsView) → AreDeps seen → IsOf (rules.update_shape field.def.update) (rule f field seen)

  module _ (law : AreLawful rules) (lawful : IsLawful rules setup) (fine : IsScene scene) (fits : RuleFits) where
    facet-in-range : (values : Values) → IsEachInRange values → (o : Option PresentFacet) → ((facet : PresentFacet) → o ≡ Some facet → IsLawfulFacet rules facet) → IfSome (option_map (facet_value rules scene values) o) IsInRange
    facet-in-range values each None h = tt
    facet-in-range values each (Some facet) h =
        (law.combine_fits facet.def.combine (joined (map (node_outputs rules scene values) facet.inputs)) (h facet refl).combine
        (joined_fit rules law facet.def.combine scene fine values each facet.inputs (h facet refl).inputs)).range

    field-in-range : (values : Values) → IsEachInRange values → (f : ℕ) (o : Option PresentField) → ((field : PresentField) → o ≡ Some field → field_at setup f ≡ Some field) → IfSome (field-given values f o) IsInRange
    field-in-range values each f None h = tt
    field-in-range values each f (Some field) h = (fits f field (h field refl) (shown scene values field.def.reads) (shown-is scene fine values each field.def.reads)).range

    -- each value that a round finds is in range
    rounds-in-range : (n : ℕ) → IsEachInRange (rounds (round rules setup scene rule) None n)
    rounds-in-range zero v = tt
    rounds-in-range (suc n) (Facet f) = facet-in-range (rounds (round rules setup scene rule) None n) (rounds-in-range n) (facet_at setup f) (lawful.facets f)
    rounds-in-range (suc n) (Field f) = field-in-range (rounds (round rules setup scene rule) None n) (rounds-in-range n) f (field_at setup f) (λ field at. at)

  fields-fit : AreLawful rules → IsLawful rules setup → IsScene scene → RuleFits → FieldsFit rules setup (values_of rules setup scene rule)
  fields-fit law lawful is fits f field at =
      subst (λ (o : Option Val). IsSomeAnd o (IsOf (rules.update_shape field.def.update)))
      (sym (settled-at (Field f) ∙ ap (field-given (values_of rules setup scene rule) f) at)) (fits f field at (shown scene (values_of rules setup scene rule) field.def.reads) (shown-is scene is (values_of rules setup scene rule) (rounds-in-range law lawful is fits (vertex_count setup)) field.def.reads))

  -- all known, what is held is of one state
  pub kept-from : AreLawful rules → IsLawful rules setup → IsScene scene → RuleFits → (facets fields : List (Option Val)) (inputs : List (List (List Val))) → HasRoom setup facets fields inputs
      → AreKnown setup (held facets fields) (values_of rules setup scene rule) (length (order_of setup))
      → AreKnown setup (held_inputs inputs) (inputs_of rules setup scene (values_of rules setup scene rule)) (length (order_of setup))
      → IsKept rules setup scene facets fields inputs
  kept-from law lawful fine fits facets fields inputs room known inputs_known =
      let is : held facets fields ≡ values_of rules setup scene rule = held-is facets fields inputs room known in
      record {
        room = room;
        combined = λ f. subst (λ (values : Values). values (Facet f) ≡ option_map (facet_value rules scene values) (facet_at setup f)) (sym is) (settled-at (Facet f));
        inputs_kept = λ f. subst (λ (values : Values). held_inputs inputs (Facet f) ≡ inputs_of rules setup scene values (Facet f)) (sym is) (inputs-at facets fields inputs room inputs_known f);
        fields_fit = subst (λ (values : Values). FieldsFit rules setup values) (sym is) (fields-fit law lawful fine fits);
        absent = λ f none. subst (λ (values : Values). values (Field f) ≡ None) (sym is) (field-beyond f none (vertex_count setup));
      }

heard-in-range : (test : ShownEffect → Bool) (es : List ShownEffect) → AllByRecursion IsShownInRange es → AllByRecursion IsShownInRange (filter test es)
heard-in-range test [] h = tt
heard-in-range test (e ∷ es) h =
    elim (test e) as (λ b. AllByRecursion IsShownInRange (cond b (e ∷ filter test es) (filter test es))) [ true ↦ (h.0, heard-in-range test es h.1) | false ↦ heard-in-range test es h.1 ]

-- a transaction as a field is shown it is one
pub heard-is : (listens : List ℕ) (t : TransactionView) → IsTransaction t → IsTransaction (heard listens t)
heard-is listens t is =
    record {
      starts = is.starts;
      document = is.document;
      short = is.short;
      new_short = is.new_short;
      start_is_selection = is.start_is_selection;
      is_selection = is.is_selection;
      start_inside = is.start_inside;
      inside = is.inside;
      effects = heard-in-range (λ (e : ShownEffect). list_any (eqb e.id) listens) t.effects is.effects;
      inverted = is.inverted;
      annotations = is.annotations;
    }

-- a field fits its updater after each transition
module _ (rules : Rules) (lawful : AreLawful rules) (setup : Setup) (all : IsLawful rules setup) (old : State) (old_fit : FieldsFit rules old.setup old.values) where
  created-fits : (field : PresentField) → IsLawfulField rules field → (seen : DepsView) → AreDeps seen → (o : Option Val) → IfSome o (IsOf (rules.update_shape field.def.update)) → IsOf (rules.update_shape field.def.update) (unwrap_or o (rules.create field.def.create seen))
  created-fits field law seen are None h = law.created (rules.create field.def.create seen) (lawful.create_fits field.def.create seen law.create are)
  created-fits field law seen are (Some x) h = h

  kept-fits : (P : Val → Type 0) (b : Bool) (o : Option Val) (d : Val) → IsSomeAnd o P → P d → P (unwrap_or (cond b o None) d)
  kept-fits P true None d h fits = fits
  kept-fits P true (Some x) d h fits = h
  kept-fits P false o d h fits = fits

  was-fits : (field : PresentField) (f : ℕ) (d : Val) (o : Option PresentField) → ((was : PresentField) → o ≡ Some was → (was.def ≡ field.def) × IsSomeAnd (old.values (Field f)) (IsOf (rules.update_shape was.def.update))) → IsOf (rules.update_shape field.def.update) d
      → IsOf (rules.update_shape field.def.update) (unwrap_or (option_and_then (λ (was : PresentField). cond (equal_init was.init field.init) (old.values (Field f)) None) o) d)
  was-fits field f d None h fits = fits
  was-fits field f d (Some was) h fits =
      kept-fits (IsOf (rules.update_shape field.def.update)) (equal_init was.init field.init) (old.values (Field f)) d
      (subst (λ (n : FieldDef). IsSomeAnd (old.values (Field f)) (IsOf (rules.update_shape n.update))) (h was refl).0 (h was refl).1) fits

  some-or : {X : Type 0} (P : X → Type 0) (o : Option X) (d : X) → IsSomeAnd o P → P (unwrap_or o d)
  some-or P None d h = absurd h
  some-or P (Some x) d h = h

  pub transition-fits : (transition : Transition) → IsMadeIn old.scene transition → Follows transition old.setup setup → (f : ℕ) (field : PresentField) → field_at setup f ≡ Some field → (seen : DepsView) → AreDeps seen
      → IsOf (rules.update_shape field.def.update) (rule_of rules transition old f field seen)
  transition-fits Enter made follows f field at seen are =
      was-fits field f (created rules field seen) (field_at old.setup f) (λ was there. (follows.agree.fields f was field there at, old_fit f was there))
      (created-fits field (all.fields f field at) seen are field.init (all.fields f field at).init)
  transition-fits (Update t) made follows f field at seen are =
      lawful.update_fits field.def.update (unwrap_or (old.values (Field f)) nothing) (heard field.def.listens t) seen (all.fields f field at).update
      (some-or (IsOf (rules.update_shape field.def.update)) (old.values (Field f)) nothing (old_fit f field (sym ((follows.continued t refl).fields f) ∙ at)))
      (heard-is field.def.listens t made.is) are

-- states of equal parts are equal
pub state-same : (setup : Setup) (d e : SceneView) (a b : Values) → d ≡ e → a ≡ b → record_state setup d a ≡ record_state setup e b
state-same setup d e a b p q = let r = p in let s = q in cc
