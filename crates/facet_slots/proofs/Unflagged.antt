-- What is not flagged is as it was.
use Rattle.std.proofs.Common.{◌≡◌, ◌<◌, ◌≤◌, ◌∙◌, ℕ, zero, suc, List, [], ◌∷◌, Bool, true, false, not, ◌&&◌, ◌||◌, cond, Option, None, Some, length, slice_get, map, MatchOption, refl, sym, ap, subst, arith, eqb}
use Rattle.std.specs.Option.{option_map}
use Rattle.std.proofs.lemmas.Bool.Decides.{Decides-eqb}
use Rattle.std.specs.List.{list_any, AllByRecursion}
use Rattle.std.proofs.lemmas.Option.{get_or_from_slice_get}
use Rattle.configuration.specs.declared.dependency.Dependency.{Dependency}
use Rattle.configuration.specs.declared.dependency.Dependency.TheVariants as dependency
use Rattle.configuration.specs.declared.facet_def.FacetDef.{FacetDef}
use Rattle.configuration.specs.declared.node_def.NodeDef.{NodeDef}
use Rattle.configuration.specs.declared.node_def.NodeDef.TheVariants as node_def
use Rattle.configuration.specs.declared.vertex.Vertex.{Vertex}
use Rattle.configuration.specs.declared.vertex.Vertex.TheVariants.{Facet, Field}
use Rattle.configuration.specs.Pairs.{reads_of}
use Rattle.transaction.specs.Numbers.{IsNumber}
use Rattle.values.specs.declared.val.Val.{Val}
use Rattle.values.specs.Rules.{Rules, AreLawful}
use Rattle.facet_slots.specs.Setups.{InputNode, PresentFacet, PresentField, facet_at, field_at, order_of}
use Rattle.facet_slots.specs.Scenes.{Values, reads_document, reads_selection, vertices_of, shown}
use Rattle.facet_slots.specs.FacetValues.{outputs, node_outputs, joined, facet_value}
use Rattle.facet_slots.specs.Stepping.{equal_init}
use Rattle.facet_slots.specs.Order.{AllReads, AllInputs, AllNeeds, StandsBefore, IsVertex, IsOrdered}
use Rattle.facet_slots.specs.Agreement.{NodesAgree, Agree}
use Rattle.facet_slots.specs.Flags.{Flags, SceneKept, Change, any_flagged, same_outputs, same_value, same_nodes, input_changed, facet_due, facet_flag, field_flag, flag_round, flags_of}
use Rattle.facet_slots.specs.Lawful.{IsLawful, IsLawfulFacet, IsLawfulField}
use Rattle.facet_slots.proofs.Rounds.{AllNeeds-weaker, IsLocal, settled-once}
use Rattle.facet_slots.proofs.Places.{facet-found}

pub or-false : (a b : Bool) → (a || b) ≡ false → (a ≡ false) × (b ≡ false)
or-false true b e = (e, cc)
or-false false b e = (refl, e)

pub not-false : (a : Bool) → not a ≡ false → a ≡ true
not-false true e = refl
not-false false e = cc

pub and-true : (a b : Bool) → (a && b) ≡ true → (a ≡ true) × (b ≡ true)
and-true true b e = (refl, e)
and-true false b e = (e, cc)

-- the values before and after, as an unflagged vertex has them
abbrev pub KeptUnlessFlagged : Flags → Values → Values → Vertex → Type 0
KeptUnlessFlagged flags old new w = flags w ≡ false → old w ≡ new w

module _ (rules : Rules) (lawful : AreLawful rules) (n : ℕ) (is : IsNumber rules.comparers n) where
  pub same_outputs-sound : (xs ys : List Val) → same_outputs rules n xs ys ≡ true → xs ≡ ys
  same_outputs-sound [] [] e = refl
  same_outputs-sound [] (y ∷ ys) e = cc
  same_outputs-sound (x ∷ xs) [] e = cc
  same_outputs-sound (x ∷ xs) (y ∷ ys) e =
      let p = and-true (rules.compare n x y) (same_outputs rules n xs ys) e in let one = lawful.compare_sound n x y is p.0 in let rest = same_outputs-sound xs ys p.1 in cc

  pub same_value-sound : (a b : Option Val) → same_value rules n a b ≡ true → a ≡ b
  same_value-sound None None e = refl
  same_value-sound (Some a) (Some b) e = ap Some (lawful.compare_sound n a b is e)
  same_value-sound None (Some b) e = cc
  same_value-sound (Some a) None e = cc

module _ (c : Change) (flags : Flags) (scene_kept : SceneKept c.moved c.old.scene c.new.scene) where
  values-kept : (ds : List Dependency) → AllReads (KeptUnlessFlagged flags c.old.values c.new.values) ds → any_flagged c.moved flags ds ≡ false → map c.old.values (vertices_of ds) ≡ map c.new.values (vertices_of ds)
  values-kept [] h e = refl
  values-kept (dependency.Doc ∷ ds) h e = values-kept ds h (or-false c.moved.document (any_flagged c.moved flags ds) e).1
  values-kept (dependency.Selection ∷ ds) h e = values-kept ds h (or-false c.moved.selection (any_flagged c.moved flags ds) e).1
  values-kept (dependency.Facet f ∷ ds) h e =
      let p = or-false (flags (Facet f)) (any_flagged c.moved flags ds) e in let d = h.0 p.0 in let r = values-kept ds h.1 p.1 in cc
  values-kept (dependency.Field f ∷ ds) h e =
      let p = or-false (flags (Field f)) (any_flagged c.moved flags ds) e in let d = h.0 p.0 in let r = values-kept ds h.1 p.1 in cc

  document-kept : (ds : List Dependency) → any_flagged c.moved flags ds ≡ false → cond (reads_document ds) (Some c.old.scene.document) None ≡ cond (reads_document ds) (Some c.new.scene.document) None
  document-kept [] e = refl
  document-kept (dependency.Doc ∷ ds) e = ap Some (scene_kept.document (or-false c.moved.document (any_flagged c.moved flags ds) e).0)
  document-kept (dependency.Selection ∷ ds) e = document-kept ds (or-false c.moved.selection (any_flagged c.moved flags ds) e).1
  document-kept (dependency.Facet f ∷ ds) e = document-kept ds (or-false (flags (Facet f)) (any_flagged c.moved flags ds) e).1
  document-kept (dependency.Field f ∷ ds) e = document-kept ds (or-false (flags (Field f)) (any_flagged c.moved flags ds) e).1

  selection-kept : (ds : List Dependency) → any_flagged c.moved flags ds ≡ false → cond (reads_selection ds) (Some c.old.scene.selection) None ≡ cond (reads_selection ds) (Some c.new.scene.selection) None
  selection-kept [] e = refl
  selection-kept (dependency.Doc ∷ ds) e = selection-kept ds (or-false c.moved.document (any_flagged c.moved flags ds) e).1
  selection-kept (dependency.Selection ∷ ds) e = ap Some (scene_kept.selection (or-false c.moved.selection (any_flagged c.moved flags ds) e).0)
  selection-kept (dependency.Facet f ∷ ds) e = selection-kept ds (or-false (flags (Facet f)) (any_flagged c.moved flags ds) e).1
  selection-kept (dependency.Field f ∷ ds) e = selection-kept ds (or-false (flags (Field f)) (any_flagged c.moved flags ds) e).1

  shown-kept : (ds : List Dependency) → AllReads (KeptUnlessFlagged flags c.old.values c.new.values) ds → any_flagged c.moved flags ds ≡ false → shown c.old.scene c.old.values ds ≡ shown c.new.scene c.new.values ds
  shown-kept ds h e = let d = document-kept ds e in let s = selection-kept ds e in let v = values-kept ds h e in cc

  -- an input none of whose dependencies is flagged gives what it gave
  pub outputs-kept : (rules : Rules) (i : Option (NodeDef Val)) → AllReads (KeptUnlessFlagged flags c.old.values c.new.values) (reads_of i) → any_flagged c.moved flags (reads_of i) ≡ false → outputs rules c.old.scene c.old.values i ≡ outputs rules c.new.scene c.new.values i
  outputs-kept rules None h e = refl
  outputs-kept rules (Some node_def.Branch) h e = refl
  outputs-kept rules (Some (node_def.Of v)) h e = refl
  outputs-kept rules (Some (node_def.Compute n reads)) h e = ap (λ s. rules.compute n s ∷ []) (shown-kept reads h e)
  outputs-kept rules (Some (node_def.ComputeN n reads)) h e = ap (rules.compute_list n) (shown-kept reads h e)
  outputs-kept rules (Some (node_def.From field n)) h e = ap (λ s. rules.compute n s ∷ []) (shown-kept (dependency.Field field ∷ []) h e)
  outputs-kept rules (Some node_def.Field) h e = refl
  outputs-kept rules (Some (node_def.Init v)) h e = refl

  module _ (rules : Rules) (lawful : AreLawful rules) (facet : PresentFacet) (law : IsLawfulFacet rules facet) (was : List InputNode) where
    -- and so does one that has not changed
    input-unchanged : (node : InputNode) → AllReads (KeptUnlessFlagged flags c.old.values c.new.values) (reads_of node.input) → input_changed rules c flags facet was node ≡ false → node_outputs rules c.old.scene c.old.values node ≡ node_outputs rules c.new.scene c.new.values node
    input-unchanged node h e =
        elim (any_flagged c.moved flags (reads_of node.input))
        as (λ b. any_flagged c.moved flags (reads_of node.input) ≡ b → (b && not (same_outputs rules facet.def.compare_input (node_outputs rules c.old.scene c.old.values node) (node_outputs rules c.new.scene c.new.values node))) ≡ false
        → node_outputs rules c.old.scene c.old.values node ≡ node_outputs rules c.new.scene c.new.values node) [
          | true ↦ λ due n. same_outputs-sound rules lawful facet.def.compare_input law.compare_input _ _ (not-false (same_outputs rules facet.def.compare_input (node_outputs rules c.old.scene c.old.values node) (node_outputs rules c.new.scene c.new.values node)) n)
          | false ↦ λ due n. outputs-kept rules node.input h due
        ] refl (or-false _ _ e).1

    pub inputs-unchanged : (is : List InputNode) → AllInputs (KeptUnlessFlagged flags c.old.values c.new.values) is → list_any (input_changed rules c flags facet was) is ≡ false → map (node_outputs rules c.old.scene c.old.values) is ≡ map (node_outputs rules c.new.scene c.new.values) is
    inputs-unchanged [] h e = refl
    inputs-unchanged (i ∷ is) h e =
        let p = or-false (input_changed rules c flags facet was i) (list_any (input_changed rules c flags facet was) is) e in
        let one = input-unchanged i h.0 p.0 in let rest = inputs-unchanged is h.1 p.1 in cc

-- what agrees with a list agrees with its first node, and with the rest
pub agree-first : (was : List InputNode) (b : InputNode) (bs : List InputNode) → NodesAgree was (b ∷ bs) → AllByRecursion (λ (a : InputNode). a.node ≡ b.node → a.input ≡ b.input) was
agree-first [] b bs h = tt
agree-first (a ∷ as') b bs h = (h.0.0, agree-first as' b bs h.1)

pub agree-rest : (was : List InputNode) (b : InputNode) (bs : List InputNode) → NodesAgree was (b ∷ bs) → NodesAgree was bs
agree-rest [] b bs h = tt
agree-rest (a ∷ as') b bs h = (h.0.1, agree-rest as' b bs h.1)

pub eqb-sound : (m n : ℕ) → eqb m n ≡ true → m ≡ n
eqb-sound m n e = (Decides-eqb m n).0 e

-- lists of the same nodes have the same inputs
pub same-nodes : {X : Type 0} (g : Option (NodeDef Val) → X) (was is : List InputNode) → NodesAgree was is → same_nodes was is ≡ true → map (λ (node : InputNode). g node.input) was ≡ map (λ (node : InputNode). g node.input) is
same-nodes g [] [] h e = refl
same-nodes g [] (b ∷ bs) h e = cc
same-nodes g (a ∷ as') [] h e = cc
same-nodes g (a ∷ as') (b ∷ bs) h e =
    let p = and-true (eqb a.node b.node) (same_nodes as' bs) e in
    let one = ap g (h.0.0 (eqb-sound a.node b.node p.0)) in
    let rest = same-nodes g as' bs (agree-rest as' b bs h.1) p.1 in cc

-- a change along the dependencies, from one plain state to another
pub record IsChange (rules : Rules) (c : Change) : Type 0 where
  pub ordered : IsOrdered c.new.setup
  pub lawful : IsLawful rules c.new.setup
  pub agree : Agree c.old.setup c.new.setup
  pub scene_kept : SceneKept c.moved c.old.scene c.new.scene
  pub old_combined : (f : ℕ) → c.old.values (Facet f) ≡ option_map (facet_value rules c.old.scene c.old.values) (facet_at c.old.setup f)
  pub new_combined : (f : ℕ) → c.new.values (Facet f) ≡ option_map (facet_value rules c.new.scene c.new.values) (facet_at c.new.setup f)
  pub old_absent : (f : ℕ) → field_at c.old.setup f ≡ None → c.old.values (Field f) ≡ None
  pub new_absent : (f : ℕ) → field_at c.new.setup f ≡ None → c.new.values (Field f) ≡ None

module _ (rules : Rules) (c : Change) (a b : Flags) where
  pub flagged-same : (ds : List Dependency) → AllReads (λ w. a w ≡ b w) ds → any_flagged c.moved a ds ≡ any_flagged c.moved b ds
  flagged-same [] h = refl
  flagged-same (dependency.Doc ∷ ds) h = ap (λ x. c.moved.document || x) (flagged-same ds h)
  flagged-same (dependency.Selection ∷ ds) h = ap (λ x. c.moved.selection || x) (flagged-same ds h)
  flagged-same (dependency.Facet f ∷ ds) h = let e = h.0 in let r = flagged-same ds h.1 in cc
  flagged-same (dependency.Field f ∷ ds) h = let e = h.0 in let r = flagged-same ds h.1 in cc

  due-same : (facet : PresentFacet) (was is : List InputNode) → AllInputs (λ w. a w ≡ b w) is → list_any (input_changed rules c a facet was) is ≡ list_any (input_changed rules c b facet was) is
  due-same facet was [] h = refl
  due-same facet was (i ∷ is) h = let e = flagged-same (reads_of i.input) h.0 in let r = due-same facet was is h.1 in cc

  facet-due-same : (o : Option PresentFacet) (facet : PresentFacet) → AllInputs (λ w. a w ≡ b w) facet.inputs → facet_due rules c a o facet ≡ facet_due rules c b o facet
  facet-due-same None facet h = refl
  facet-due-same (Some was) facet h = ap (λ x. x || not (same_nodes was.inputs facet.inputs)) (due-same facet was.inputs facet.inputs h)

  facet-flag-same : (f : ℕ) (o n : Option PresentFacet) → MatchOption n (Unit {0}) (λ facet. AllInputs (λ w. a w ≡ b w) facet.inputs) → facet_flag rules c a f o n ≡ facet_flag rules c b f o n
  facet-flag-same f o None h = refl
  facet-flag-same f o (Some facet) h = let e = facet-due-same o facet h in cc

  flag-same : (v : Vertex) → AllNeeds (λ w. a w ≡ b w) c.new.setup v → flag_round rules c a v ≡ flag_round rules c b v
  flag-same (Facet f) h = facet-flag-same f (facet_at c.old.setup f) (facet_at c.new.setup f) h
  flag-same (Field f) h = refl

-- the round of the flags is local
pub flags-local : (rules : Rules) (c : Change) → IsLocal c.new.setup (flag_round rules c)
flags-local rules c a b v h = flag-same rules c a b v h

module _ (rules : Rules) (lawful : AreLawful rules) (c : Change) (change : IsChange rules c) where
  pub field-kept : (o p : Option PresentField) (x y : Option Val) → ((field : PresentField) → p ≡ Some field → IsLawfulField rules field) → (o ≡ None → x ≡ None) → (p ≡ None → y ≡ None) → field_flag rules o p x y ≡ false → x ≡ y
  field-kept None None x y law h k e = h refl ∙ sym (k refl)
  field-kept None (Some field) x y law h k e = cc
  field-kept (Some was) None x y law h k e = cc
  field-kept (Some was) (Some field) x y law h k e =
      same_value-sound rules lawful field.def.compare (law field refl).compare x y (and-true (equal_init was.init field.init) (same_value rules field.def.compare x y) (not-false _ e)).1

  -- a facet that is not due has the value that it had
  pub facet-kept : (flags : Flags) (o : Option PresentFacet) (facet : PresentFacet) → IsLawfulFacet rules facet → ((was : PresentFacet) → o ≡ Some was → (was.def ≡ facet.def) × NodesAgree was.inputs facet.inputs) → AllInputs (KeptUnlessFlagged flags c.old.values c.new.values) facet.inputs
      → facet_due rules c flags o facet ≡ false → option_map (facet_value rules c.old.scene c.old.values) o ≡ Some (facet_value rules c.new.scene c.new.values facet)
  facet-kept flags None facet law h k e = cc
  facet-kept flags (Some was) facet law h k e =
      let p = or-false _ _ e in
      let same = h was refl in
      let nodes : map (node_outputs rules c.old.scene c.old.values) was.inputs ≡ map (node_outputs rules c.old.scene c.old.values) facet.inputs =
      same-nodes (outputs rules c.old.scene c.old.values) was.inputs facet.inputs same.1 (not-false (same_nodes was.inputs facet.inputs) p.1) in
      let ins = nodes ∙ inputs-unchanged c flags change.scene_kept rules lawful facet law was.inputs facet.inputs k p.0 in
      ap (λ (d : FacetDef). Some (rules.combine d.combine (joined (map (node_outputs rules c.old.scene c.old.values) was.inputs)))) same.0
      ∙ ap (λ (xs : List (List Val)). Some (rules.combine facet.def.combine (joined xs))) ins

  pub facet-agrees : (f : ℕ) (facet : PresentFacet) → facet_at c.new.setup f ≡ Some facet → (was : PresentFacet) → facet_at c.old.setup f ≡ Some was → (was.def ≡ facet.def) × NodesAgree was.inputs facet.inputs
  facet-agrees f facet at was there = (change.agree.facets f was facet there at, change.agree.nodes f was facet there at)

  facet-vertex-kept : (flags : Flags) (f : ℕ) (n : Option PresentFacet) → facet_at c.new.setup f ≡ n → n ≡ n → MatchOption n ⊥ (λ facet. AllInputs (KeptUnlessFlagged flags c.old.values c.new.values) facet.inputs)
      → facet_flag rules c flags f (facet_at c.old.setup f) n ≡ false → c.old.values (Facet f) ≡ c.new.values (Facet f)
  facet-vertex-kept flags f None at r h e = absurd h
  facet-vertex-kept flags f (Some facet) at r h e =
      elim (facet_due rules c flags (facet_at c.old.setup f) facet)
      as (λ b. facet_due rules c flags (facet_at c.old.setup f) facet ≡ b → (b && not (same_value rules facet.def.compare (c.old.values (Facet f)) (c.new.values (Facet f)))) ≡ false → c.old.values (Facet f) ≡ c.new.values (Facet f)) [
        | true ↦ λ due n. same_value-sound rules lawful facet.def.compare (change.lawful.facets f facet at).compare (c.old.values (Facet f)) (c.new.values (Facet f)) (not-false _ n)
        | false ↦ λ due n. change.old_combined f ∙ facet-kept flags (facet_at c.old.setup f) facet (change.lawful.facets f facet at) (facet-agrees f facet at) h due
            ∙ sym (change.new_combined f ∙ ap (λ (o : Option PresentFacet). option_map (facet_value rules c.new.scene c.new.values) o) at)
      ] refl e

  known-needs : (P : Vertex → Type 0) (f : ℕ) → f < length c.new.setup.defs.facets → AllNeeds P c.new.setup (Facet f) → MatchOption (facet_at c.new.setup f) ⊥ (λ (facet : PresentFacet). AllInputs P facet.inputs)
  known-needs P f inside h =
      let found = facet-found c.new.setup f inside in
      subst (λ (o : Option PresentFacet). MatchOption o ⊥ (λ (facet : PresentFacet). AllInputs P facet.inputs)) (sym found.1)
      (subst (λ (o : Option PresentFacet). MatchOption o (Unit {0}) (λ (facet : PresentFacet). AllInputs P facet.inputs)) found.1 h)

  vertex-kept : (flags : Flags) (v : Vertex) → IsVertex c.new.setup v → AllNeeds (KeptUnlessFlagged flags c.old.values c.new.values) c.new.setup v → flag_round rules c flags v ≡ false → c.old.values v ≡ c.new.values v
  vertex-kept flags (Facet f) is h e = facet-vertex-kept flags f (facet_at c.new.setup f) refl refl (known-needs (KeptUnlessFlagged flags c.old.values c.new.values) f is h) e
  vertex-kept flags (Field f) is h e =
      field-kept (field_at c.old.setup f) (field_at c.new.setup f) (c.old.values (Field f)) (c.new.values (Field f)) (change.lawful.fields f) (change.old_absent f) (change.new_absent f) e

  unflagged : (n j : ℕ) (v : Vertex) → j < n → j < length (order_of c.new.setup) → slice_get (order_of c.new.setup) j ≡ Some v → KeptUnlessFlagged (flags_of rules c) c.old.values c.new.values v
  unflagged zero j v lt inside at e = absurd (omega arith)
  unflagged (suc n) j v lt inside at e =
      vertex-kept (flags_of rules c) v (subst (λ (u : Vertex). IsVertex c.new.setup u) (get_or_from_slice_get (order_of c.new.setup) j v v at) (change.ordered.known j v inside))
      (AllNeeds-weaker (StandsBefore (order_of c.new.setup) j) (KeptUnlessFlagged (flags_of rules c) c.old.values c.new.values)
      (λ w before. unflagged n before.0 w (omega (arith, before.1)) (omega (arith, before.1)) before.2) c.new.setup v (change.ordered.after j v at))
      (sym (settled-once c.new.setup (flag_round rules c) false (flags-local rules c) change.ordered j v inside at) ∙ e)

  -- an unflagged vertex before a place of the order has the value that it had
  pub unflagged-before : (i : ℕ) → i ≤ length (order_of c.new.setup) → (w : Vertex) → StandsBefore (order_of c.new.setup) i w → KeptUnlessFlagged (flags_of rules c) c.old.values c.new.values w
  unflagged-before i within w before = unflagged i before.0 w before.1 (omega (arith, before.1)) before.2
