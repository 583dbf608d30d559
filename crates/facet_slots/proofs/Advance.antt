-- What a transition finds of what was kept is right, within the calls that are due.
use Rattle.std.proofs.Common.{◌≡◌, ◌<◌, ◌∙◌, ℕ, List, [], ◌∷◌, Bool, true, false, not, ◌&&◌, ◌||◌, cond, eqb, Option, None, Some, is_none, length, slice_get, map, MatchOption, refl, sym, ap, subst, arith, IfSome}
use Rattle.std.specs.Option.{option_map, unwrap_or}
use Rattle.std.specs.List.{list_any, AllByRecursion}
use Rattle.configuration.specs.declared.vertex.Vertex.{Vertex}
use Rattle.configuration.specs.declared.vertex.Vertex.TheVariants.{Facet, Field}
use Rattle.configuration.specs.Pairs.{reads_of}
use Rattle.values.specs.declared.val.Val.{Val}
use Rattle.values.specs.Rules.{Rules, AreLawful}
use Rattle.values.specs.Reading.{nothing}
use Rattle.facet_slots.specs.Setups.{InputNode, PresentFacet, PresentField, facet_at, field_at, order_of}
use Rattle.facet_slots.specs.Scenes.{SceneView, Values}
use Rattle.facet_slots.specs.FacetValues.{outputs, node_outputs, joined, facet_value}
use Rattle.facet_slots.specs.Settling.{field_value}
use Rattle.facet_slots.specs.Stepping.{Transition, rule_of}
use Rattle.facet_slots.specs.Order.{AllReads, AllInputs, AllNeeds, StandsBefore, IsVertex}
use Rattle.facet_slots.specs.Agreement.{NodesAgree}
use Rattle.facet_slots.specs.Keeping.{inputs_of, AreKnown, inputs_put}
use Rattle.facet_slots.specs.Flags.{Flags, SceneKept, Change, any_flagged, find_node, same_outputs, same_value, same_nodes, input_changed, facet_due, facet_flag, field_flag, flag_round, flags_of}
use Rattle.facet_slots.specs.Due.{call_of, inputs_due, inputs_before, facet_calls, calls_due}
use Rattle.facet_slots.specs.Nexts.{kept_outputs, next_from, changed_from, next_outputs, next_changed, next_due, next_count, facet_next_calls, next_calls, IsNextFacet, IsNextField, IsNext}
use Rattle.facet_slots.proofs.Rounds.{AllNeeds-weaker, AllReads-weaker, AllInputs-weaker, outputs-same, shown-same, settled-once}
use Rattle.facet_slots.proofs.Places.{facet-found}
use Rattle.facet_slots.proofs.Unflagged.{KeptUnlessFlagged, IsChange, flagged-same, outputs-kept, agree-first, agree-rest, eqb-sound, unflagged-before, flags-local, facet-kept, facet-agrees}

-- flags and values that are held are right at a vertex
pub record IsRight (c : Change) (flags held_flags : Flags) (held_values : Values) (w : Vertex) : Type 0 where
  pub flag : held_flags w ≡ flags w
  pub value : held_values w ≡ c.new.values w
  pub kept : flags w ≡ false → c.old.values w ≡ c.new.values w

-- what is found by a node in what was kept is what its input gave
pub kept-found : (rules : Rules) (scene : SceneView) (values : Values) (n : ℕ) (was : List InputNode) → kept_outputs n was (map (node_outputs rules scene values) was) ≡ option_map (node_outputs rules scene values) (find_node n was)
kept-found rules scene values n [] = refl
kept-found rules scene values n (i ∷ is) =
    elim (eqb i.node n) as (λ b. cond b (Some (node_outputs rules scene values i)) (kept_outputs n is (map (node_outputs rules scene values) is)) ≡ option_map (node_outputs rules scene values) (cond b (Some i) (find_node n is))) [
      | true ↦ refl
      | false ↦ kept-found rules scene values n is
    ]

-- and it is the input of the node
found-agrees : (node : InputNode) (was : List InputNode) → AllByRecursion (λ (a : InputNode). a.node ≡ node.node → a.input ≡ node.input) was → IfSome (find_node node.node was) (λ (i : InputNode). i.input ≡ node.input)
found-agrees node [] h = tt
found-agrees node (a ∷ was) h =
    elim (eqb a.node node.node) as (λ b. eqb a.node node.node ≡ b → IfSome (cond b (Some a) (find_node node.node was)) (λ (i : InputNode). i.input ≡ node.input)) [
      | true ↦ λ e. h.0 (eqb-sound a.node node.node e)
      | false ↦ λ e. found-agrees node was h.1
    ] refl

module _ (rules : Rules) (c : Change) (flags held_flags : Flags) (held_values : Values) (scene_kept : SceneKept c.moved c.old.scene c.new.scene) where
  module _ (node : InputNode) (right : AllReads (IsRight c flags held_flags held_values) (reads_of node.input)) where
    flag-right : any_flagged c.moved held_flags (reads_of node.input) ≡ any_flagged c.moved flags (reads_of node.input)
    flag-right = flagged-same rules c held_flags flags (reads_of node.input) (AllReads-weaker (IsRight c flags held_flags held_values) (λ w. held_flags w ≡ flags w) (λ w r. r.flag) (reads_of node.input) right)

    value-right : node_outputs rules c.new.scene held_values node ≡ node_outputs rules c.new.scene c.new.values node
    value-right =
        outputs-same rules c.new.setup c.new.scene (λ f field s. nothing) held_values c.new.values node.input
        (AllReads-weaker (IsRight c flags held_flags held_values) (λ w. held_values w ≡ c.new.values w) (λ w r. r.value) (reads_of node.input) right)

    kept-deps : AllReads (KeptUnlessFlagged flags c.old.values c.new.values) (reads_of node.input)
    kept-deps = AllReads-weaker (IsRight c flags held_flags held_values) (KeptUnlessFlagged flags c.old.values c.new.values) (λ w r. r.kept) (reads_of node.input) right

    from-right : (o : Option InputNode) → IfSome o (λ (i : InputNode). i.input ≡ node.input) → next_from rules c.new.scene c.moved held_flags held_values node (option_map (node_outputs rules c.old.scene c.old.values) o) ≡ node_outputs rules c.new.scene c.new.values node
    from-right None h = value-right
    from-right (Some i) h =
        elim (any_flagged c.moved held_flags (reads_of node.input))
        as (λ b. any_flagged c.moved held_flags (reads_of node.input) ≡ b → cond b (node_outputs rules c.new.scene held_values node) (node_outputs rules c.old.scene c.old.values i) ≡ node_outputs rules c.new.scene c.new.values node) [
          | true ↦ λ e. value-right
          | false ↦ λ e. ap (outputs rules c.old.scene c.old.values) h ∙ outputs-kept c flags scene_kept rules node.input kept-deps (sym flag-right ∙ e)
        ] refl

    changed-right : (compare : ℕ) (o : Option InputNode) → IfSome o (λ (i : InputNode). i.input ≡ node.input)
        → changed_from rules c.new.scene c.moved held_flags held_values compare node (option_map (node_outputs rules c.old.scene c.old.values) o)
        ≡ (is_none o || (any_flagged c.moved flags (reads_of node.input) && not (same_outputs rules compare (node_outputs rules c.old.scene c.old.values node) (node_outputs rules c.new.scene c.new.values node))))
    changed-right compare None h = refl
    changed-right compare (Some i) h = let e = flag-right in let v = value-right in let w = h in cc

    calls-right : (o : Option InputNode) → cond (is_none (option_map (node_outputs rules c.old.scene c.old.values) o) || any_flagged c.moved held_flags (reads_of node.input)) (call_of node.input) 0 ≡ cond (is_none o || any_flagged c.moved flags (reads_of node.input)) (call_of node.input) 0
    calls-right None = refl
    calls-right (Some i) = ap (λ (b : Bool). cond b (call_of node.input) 0) flag-right

  module _ (was : List InputNode) where
    abbrev kept : List (List Val)
    kept = map (node_outputs rules c.old.scene c.old.values) was

    -- the next outputs are those of the new state
    pub next_outputs-right : (is : List InputNode) → NodesAgree was is → AllInputs (IsRight c flags held_flags held_values) is
        → map (next_outputs rules c.new.scene c.moved held_flags held_values was (map (node_outputs rules c.old.scene c.old.values) was)) is ≡ map (node_outputs rules c.new.scene c.new.values) is
    next_outputs-right [] a h = refl
    next_outputs-right (i ∷ is) a h =
        let one = ap (next_from rules c.new.scene c.moved held_flags held_values i) (kept-found rules c.old.scene c.old.values i.node was)
        ∙ from-right i h.0 (find_node i.node was) (found-agrees i was (agree-first was i is a)) in
        let rest = next_outputs-right is (agree-rest was i is a) h.1 in cc

    -- a change of them is found exactly where an input changed
    pub next_changed-right : (facet : PresentFacet) (is : List InputNode) → NodesAgree was is → AllInputs (IsRight c flags held_flags held_values) is
        → list_any (next_changed rules c.new.scene c.moved held_flags held_values facet.def.compare_input was (map (node_outputs rules c.old.scene c.old.values) was)) is ≡ list_any (input_changed rules c flags facet was) is
    next_changed-right facet [] a h = refl
    next_changed-right facet (i ∷ is) a h =
        let one = ap (changed_from rules c.new.scene c.moved held_flags held_values facet.def.compare_input i) (kept-found rules c.old.scene c.old.values i.node was)
        ∙ changed-right i h.0 facet.def.compare_input (find_node i.node was) (found-agrees i was (agree-first was i is a)) in
        let rest = next_changed-right facet is (agree-rest was i is a) h.1 in cc

    -- the calls are those that are due
    pub next_count-right : (is : List InputNode) → AllInputs (IsRight c flags held_flags held_values) is → next_count c.moved held_flags was (map (node_outputs rules c.old.scene c.old.values) was) is ≡ inputs_due c.moved flags was is
    next_count-right [] h = refl
    next_count-right (i ∷ is) h =
        let one = ap (λ (o : Option (List Val)). cond (is_none o || any_flagged c.moved held_flags (reads_of i.input)) (call_of i.input) 0) (kept-found rules c.old.scene c.old.values i.node was)
        ∙ calls-right i h.0 (find_node i.node was) in
        let rest = next_count-right is h.1 in cc

  module _ (facet : PresentFacet) (right : AllInputs (IsRight c flags held_flags held_values) facet.inputs) where
    -- a facet is found due exactly where it is
    pub next_due-right : (o : Option PresentFacet) → NodesAgree (inputs_before o) facet.inputs
        → next_due rules c.new.scene c.moved held_flags held_values o (map (node_outputs rules c.old.scene c.old.values) (inputs_before o)) facet ≡ facet_due rules c flags o facet
    next_due-right None a = refl
    next_due-right (Some was) a = ap (λ (b : Bool). b || not (same_nodes was.inputs facet.inputs)) (next_changed-right was.inputs facet facet.inputs a right)

    -- and its calls are those that are due
    pub facet-calls-right : (o : Option PresentFacet) → NodesAgree (inputs_before o) facet.inputs
        → facet_next_calls rules c.new.scene c.moved held_flags held_values o (map (node_outputs rules c.old.scene c.old.values) (inputs_before o)) facet ≡ facet_calls rules c flags o facet
    facet-calls-right o a = let one = next_count-right (inputs_before o) facet.inputs right in let two = next_due-right o a in cc

-- what a transition finds at a vertex is right
pub record Advances (rules : Rules) (c : Change) (v : Vertex) (value : Option Val) (flag : Bool) (inputs : List (List Val)) : Type 0 where
  pub value_right : c.new.values v ≡ value
  pub flag_right : flags_of rules c v ≡ flag
  pub inputs_right : inputs_of rules c.new.setup c.new.scene c.new.values v ≡ inputs_put v inputs

before-inputs : (g : InputNode → List Val) (o : Option PresentFacet) → unwrap_or (option_map (λ (d : PresentFacet). map g d.inputs) o) [] ≡ map g (inputs_before o)
before-inputs g None = refl
before-inputs g (Some was) = refl

before-agrees : (facet : PresentFacet) (o : Option PresentFacet) → ((was : PresentFacet) → o ≡ Some was → NodesAgree was.inputs facet.inputs) → NodesAgree (inputs_before o) facet.inputs
before-agrees facet None h = tt
before-agrees facet (Some was) h = h was refl

module _ (rules : Rules) (lawful : AreLawful rules) (transition : Transition) (c : Change) (change : IsChange rules c)
    (new_fields : (f : ℕ) → c.new.values (Field f) ≡ option_map (field_value c.new.scene (rule_of rules transition c.old) c.new.values f) (field_at c.new.setup f))
    (kept : Vertex → List (List Val)) (kept_is : (f : ℕ) → kept (Facet f) ≡ inputs_of rules c.old.setup c.old.scene c.old.values (Facet f))
    (i : ℕ) (v : Vertex) (inside : i < length (order_of c.new.setup)) (at : slice_get (order_of c.new.setup) i ≡ Some v)
    (held_flags : Flags) (held_values : Values) (values_known : AreKnown c.new.setup held_values c.new.values i) (flags_known : AreKnown c.new.setup held_flags (flags_of rules c) i) where
  right-at : AllNeeds (IsRight c (flags_of rules c) held_flags held_values) c.new.setup v
  right-at =
      AllNeeds-weaker (StandsBefore (order_of c.new.setup) i) (IsRight c (flags_of rules c) held_flags held_values)
      (λ w before. record {
        flag = flags_known before.0 w before.1 before.2;
        value = values_known before.0 w before.1 before.2;
        kept = unflagged-before rules lawful c change i (omega arith) w before;
      })
      c.new.setup v (change.ordered.after i v at)

  flag-once : flags_of rules c v ≡ flag_round rules c (flags_of rules c) v
  flag-once = settled-once c.new.setup (flag_round rules c) false (flags-local rules c) change.ordered i v inside at

  module _ (f : ℕ) (is_facet : v ≡ Facet f) (facet : PresentFacet) (there : facet_at c.new.setup f ≡ Some facet) where
    facet-right : AllInputs (IsRight c (flags_of rules c) held_flags held_values) facet.inputs
    facet-right =
        subst (λ (o : Option PresentFacet). MatchOption o (Unit {0}) (λ (d : PresentFacet). AllInputs (IsRight c (flags_of rules c) held_flags held_values) d.inputs)) there
        (subst (λ (w : Vertex). AllNeeds (IsRight c (flags_of rules c) held_flags held_values) c.new.setup w) is_facet right-at)

    nodes-agree : NodesAgree (inputs_before (facet_at c.old.setup f)) facet.inputs
    nodes-agree = before-agrees facet (facet_at c.old.setup f) (λ was was_there. (facet-agrees rules lawful c change f facet there was was_there).1)

    kept-before : kept (Facet f) ≡ map (node_outputs rules c.old.scene c.old.values) (inputs_before (facet_at c.old.setup f))
    kept-before = kept_is f ∙ before-inputs (node_outputs rules c.old.scene c.old.values) (facet_at c.old.setup f)

    new-at : c.new.values (Facet f) ≡ Some (facet_value rules c.new.scene c.new.values facet)
    new-at = change.new_combined f ∙ ap (λ (o : Option PresentFacet). option_map (facet_value rules c.new.scene c.new.values) o) there

    due-right : next_due rules c.new.scene c.moved held_flags held_values (facet_at c.old.setup f) (kept (Facet f)) facet ≡ facet_due rules c (flags_of rules c) (facet_at c.old.setup f) facet
    due-right =
        ap (λ (ks : List (List Val)). next_due rules c.new.scene c.moved held_flags held_values (facet_at c.old.setup f) ks facet) kept-before
        ∙ next_due-right rules c (flags_of rules c) held_flags held_values change.scene_kept facet facet-right (facet_at c.old.setup f) nodes-agree

    -- the calls of a facet are those that it is due
    pub facet-advance-calls : next_calls rules transition c.new.setup c.new.scene c.moved held_flags held_values c.old kept (Facet f) ≡ calls_due rules transition c (flags_of rules c) (Facet f)
    facet-advance-calls =
        ap (λ (o : Option PresentFacet). unwrap_or (option_map (facet_next_calls rules c.new.scene c.moved held_flags held_values (facet_at c.old.setup f) (kept (Facet f))) o) 0) there
        ∙ ap (λ (ks : List (List Val)). facet_next_calls rules c.new.scene c.moved held_flags held_values (facet_at c.old.setup f) ks facet) kept-before
        ∙ facet-calls-right rules c (flags_of rules c) held_flags held_values change.scene_kept facet facet-right (facet_at c.old.setup f) nodes-agree
        ∙ ap (λ (o : Option PresentFacet). unwrap_or (option_map (facet_calls rules c (flags_of rules c) (facet_at c.old.setup f)) o) 0) (sym there)

    pub facet-advances : (value : Val) (flag : Bool) (ins : List (List Val))
        → IsNextFacet rules c.new.scene c.moved held_flags held_values (facet_at c.old.setup f) (kept (Facet f)) (c.old.values (Facet f)) facet value flag ins
        → Advances rules c (Facet f) (Some value) flag ins
    facet-advances value flag ins next =
        let o : Option PresentFacet = facet_at c.old.setup f in
        let due : Bool = facet_due rules c (flags_of rules c) (facet_at c.old.setup f) facet in
        let new_value : Val = facet_value rules c.new.scene c.new.values facet in
        let ins_new : ins ≡ map (node_outputs rules c.new.scene c.new.values) facet.inputs =
        next.inputs_are
        ∙ ap (λ (ks : List (List Val)). map (next_outputs rules c.new.scene c.moved held_flags held_values (inputs_before (facet_at c.old.setup f)) ks) facet.inputs) kept-before
        ∙ next_outputs-right rules c (flags_of rules c) held_flags held_values change.scene_kept (inputs_before (facet_at c.old.setup f)) facet.inputs nodes-agree facet-right in
        let value_at : value ≡ cond due (rules.combine facet.def.combine (joined ins)) (unwrap_or (c.old.values (Facet f)) nothing) =
        next.value_is ∙ ap (λ (b : Bool). cond b (rules.combine facet.def.combine (joined ins)) (unwrap_or (c.old.values (Facet f)) nothing)) due-right in
        let kept_of : AllInputs (KeptUnlessFlagged (flags_of rules c) c.old.values c.new.values) facet.inputs =
        AllInputs-weaker (IsRight c (flags_of rules c) held_flags held_values) (KeptUnlessFlagged (flags_of rules c) c.old.values c.new.values) (λ w r. r.kept) facet.inputs facet-right in
        let value_new : value ≡ new_value =
        elim due as (λ b. due ≡ b → value ≡ new_value) [
          | true ↦ λ e. value_at ∙ ap (λ (b : Bool). cond b (rules.combine facet.def.combine (joined ins)) (unwrap_or (c.old.values (Facet f)) nothing)) e ∙ ap (λ (xs : List (List Val)). rules.combine facet.def.combine (joined xs)) ins_new
          | false ↦ λ e. value_at ∙ ap (λ (b : Bool). cond b (rules.combine facet.def.combine (joined ins)) (unwrap_or (c.old.values (Facet f)) nothing)) e
              ∙ ap (λ (x : Option Val). unwrap_or x nothing)
              (change.old_combined f ∙ facet-kept rules lawful c change (flags_of rules c) (facet_at c.old.setup f) facet (change.lawful.facets f facet there) (facet-agrees rules lawful c change f facet there) kept_of e)
        ] refl in
        let value_right : c.new.values (Facet f) ≡ Some value = new-at ∙ ap (λ (x : Val). Some x) (sym value_new) in
        record {
          value_right = value_right;
          flag_right = subst (λ (w : Vertex). flags_of rules c w ≡ flag_round rules c (flags_of rules c) w) is_facet flag-once
              ∙ ap (λ (n : Option PresentFacet). facet_flag rules c (flags_of rules c) f (facet_at c.old.setup f) n) there
              ∙ ap (λ (b : Bool). b && not (same_value rules facet.def.compare (c.old.values (Facet f)) (c.new.values (Facet f)))) (sym due-right)
              ∙ ap (λ (x : Option Val). next_due rules c.new.scene c.moved held_flags held_values (facet_at c.old.setup f) (kept (Facet f)) facet && not (same_value rules facet.def.compare (c.old.values (Facet f)) x)) value_right
              ∙ sym next.flag_is;
          inputs_right = ap (λ (n : Option PresentFacet). unwrap_or (option_map (λ (d : PresentFacet). map (node_outputs rules c.new.scene c.new.values) d.inputs) n) []) there ∙ sym ins_new;
        }

  field-same : (f : ℕ) (o : Option PresentField) → MatchOption o (Unit {0}) (λ (d : PresentField). AllReads (IsRight c (flags_of rules c) held_flags held_values) d.def.reads)
      → option_map (field_value c.new.scene (rule_of rules transition c.old) held_values f) o ≡ option_map (field_value c.new.scene (rule_of rules transition c.old) c.new.values f) o
  field-same f None h = refl
  field-same f (Some d) h =
      ap (λ s. Some (rule_of rules transition c.old f d s))
      (shown-same rules c.new.setup c.new.scene (λ g field s. nothing) held_values c.new.values d.def.reads
      (AllReads-weaker (IsRight c (flags_of rules c) held_flags held_values) (λ w. held_values w ≡ c.new.values w) (λ w r. r.value) d.def.reads h))

  pub field-advances : (f : ℕ) → v ≡ Field f → (value : Option Val) (flag : Bool) (ins : List (List Val)) → IsNextField rules transition c.new.scene held_values c.old f (field_at c.new.setup f) value flag → Advances rules c (Field f) value flag ins
  field-advances f is_field value flag ins next =
      let value_right : c.new.values (Field f) ≡ value =
      new_fields f ∙ sym (field-same f (field_at c.new.setup f) (subst (λ (w : Vertex). AllNeeds (IsRight c (flags_of rules c) held_flags held_values) c.new.setup w) is_field right-at)) ∙ sym next.value_is in
      record {
        value_right = value_right;
        flag_right = subst (λ (w : Vertex). flags_of rules c w ≡ flag_round rules c (flags_of rules c) w) is_field flag-once
            ∙ ap (λ (x : Option Val). field_flag rules (field_at c.old.setup f) (field_at c.new.setup f) (c.old.values (Field f)) x) value_right ∙ sym next.flag_is;
        inputs_right = refl;
      }

module _ (rules : Rules) (lawful : AreLawful rules) (transition : Transition) (c : Change) (change : IsChange rules c)
    (new_fields : (f : ℕ) → c.new.values (Field f) ≡ option_map (field_value c.new.scene (rule_of rules transition c.old) c.new.values f) (field_at c.new.setup f))
    (kept : Vertex → List (List Val)) (kept_is : (f : ℕ) → kept (Facet f) ≡ inputs_of rules c.old.setup c.old.scene c.old.values (Facet f)) where
  -- a vertex at its place in the order
  pub advance : (i : ℕ) (v : Vertex) → i < length (order_of c.new.setup) → slice_get (order_of c.new.setup) i ≡ Some v → IsVertex c.new.setup v → (held_flags : Flags) (held_values : Values)
      → AreKnown c.new.setup held_values c.new.values i → AreKnown c.new.setup held_flags (flags_of rules c) i → (value : Option Val) (flag : Bool) (ins : List (List Val))
      → IsNext rules transition c.new.setup c.new.scene c.moved held_flags held_values c.old kept v value flag ins → Advances rules c v value flag ins
  advance i (Field f) inside at is held_flags held_values values_known flags_known value flag ins next =
      field-advances rules lawful transition c change new_fields kept kept_is i (Field f) inside at held_flags held_values values_known flags_known f refl value flag ins next
  advance i (Facet f) inside at is held_flags held_values values_known flags_known None flag ins next =
      let found = facet-found c.new.setup f is in absurd (next found.0 found.1)
  advance i (Facet f) inside at is held_flags held_values values_known flags_known (Some value) flag ins next =
      let found = facet-found c.new.setup f is in
      facet-advances rules lawful transition c change new_fields kept kept_is i (Facet f) inside at held_flags held_values values_known flags_known f refl found.0 found.1 value flag ins (next found.0 found.1)

  -- the calls that a vertex takes are those that it is due
  pub advance-calls : (i : ℕ) (v : Vertex) → i < length (order_of c.new.setup) → slice_get (order_of c.new.setup) i ≡ Some v → IsVertex c.new.setup v → (held_flags : Flags) (held_values : Values)
      → AreKnown c.new.setup held_values c.new.values i → AreKnown c.new.setup held_flags (flags_of rules c) i
      → next_calls rules transition c.new.setup c.new.scene c.moved held_flags held_values c.old kept v ≡ calls_due rules transition c (flags_of rules c) v
  advance-calls i (Field f) inside at is held_flags held_values values_known flags_known = refl
  advance-calls i (Facet f) inside at is held_flags held_values values_known flags_known =
      let found = facet-found c.new.setup f is in
      facet-advance-calls rules lawful transition c change new_fields kept kept_is i (Facet f) inside at held_flags held_values values_known flags_known f refl found.0 found.1
