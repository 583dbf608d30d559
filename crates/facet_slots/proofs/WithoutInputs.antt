-- A facet that has no inputs now and had none before keeps its value.
use Rattle.std.proofs.Common.{◌≡◌, ◌∙◌, ℕ, List, [], ◌∷◌, Bool, false, not, true, ◌||◌, Option, None, Some, get_or, map, slice_get, refl, sym, ap, subst, ⊎_elim}
use Rattle.std.specs.Option.{option_map, unwrap_or}
use Rattle.std.specs.List.{list_any}
use Rattle.configuration.specs.declared.facet_def.FacetDef.{FacetDef}
use Rattle.configuration.specs.declared.vertex.Vertex.{Vertex}
use Rattle.configuration.specs.declared.vertex.Vertex.TheVariants.{Facet, Field}
use Rattle.values.specs.declared.val.Val.{Val}
use Rattle.values.specs.Rules.{Rules}
use Rattle.facet_slots.specs.Setups.{Setup, InputNode, PresentFacet, facet_at, input_node, inputs_at}
use Rattle.facet_slots.specs.Scenes.{SceneView, Values}
use Rattle.facet_slots.specs.FacetValues.{facet_value, node_outputs}
use Rattle.facet_slots.specs.Agreement.{IsContinued}
use Rattle.facet_slots.specs.Keeping.{held, held_inputs, inputs_of, inputs_put, state_of, IsKept, Puts}
use Rattle.facet_slots.specs.Shelves.{lasts, vertex_lasts, AreLasting, IsStillIn, Shelved, StayStill}
use Rattle.facet_slots.specs.Stepping.{State, Transition}
use Rattle.facet_slots.specs.declared.scene_flags.SceneFlags.{SceneFlags}
use Rattle.facet_slots.specs.Flags.{Flags, same_nodes}
use Rattle.facet_slots.specs.Nexts.{flagged, next_changed, next_outputs, IsNext, IsNextFacet}
use Rattle.facet_slots.proofs.Nexting.{facet-kept}

some-none : {X : Type 0} {x : X} → Some x ≡ None → ⊥
some-none e = cc

none-some : {X : Type 0} {x : X} → None ≡ Some x → ⊥
none-some e = cc

false-true : false ≡ true → ⊥
false-true e = cc

nil-cons : {X : Type 0} {x : X} {xs : List X} → [] ≡ x ∷ xs → ⊥
nil-cons e = cc

none-mapped : {X Y : Type 0} (f : X → Y) (xs : List X) → [] ≡ map f xs → xs ≡ []
none-mapped f [] e = refl
none-mapped f (x ∷ xs) e = absurd (nil-cons e)

-- what has a value, and of whose inputs nothing is kept, is a facet without inputs
was-without-inputs : (P : Option PresentFacet → Type 0) (value : PresentFacet → Val) (outputs : InputNode → List Val) (v : Val) (o : Option PresentFacet) → Some v ≡ option_map value o
    → [] ≡ unwrap_or (option_map (λ (facet : PresentFacet). map outputs facet.inputs) o) [] → ((was : PresentFacet) → was.inputs ≡ [] → P (Some was)) → P o
was-without-inputs P value outputs v None some none k = absurd (some-none some)
was-without-inputs P value outputs v (Some was) some none k = k was (none-mapped outputs was.inputs none)

abbrev with-inputs : List InputNode → FacetDef → PresentFacet
with-inputs inputs def = record { def = def; inputs = inputs }

present-inputs : (o : Option FacetDef) (inputs : List InputNode) (facet : PresentFacet) → option_map (with-inputs inputs) o ≡ Some facet → inputs ≡ facet.inputs
present-inputs None inputs facet e = absurd (none-some e)
present-inputs (Some def) inputs facet e = ap (λ (o : Option PresentFacet). unwrap_or (option_map (λ (f : PresentFacet). f.inputs) o) []) e

module _ (rules : Rules) (scene : SceneView) (moved : SceneFlags) (flags : Flags) (values : Values) where
  kept-without-inputs : (was facet : PresentFacet) (kept : List (List Val)) (old : Val) → was.inputs ≡ [] → [] ≡ facet.inputs → IsNextFacet rules scene moved flags values (Some was) kept (Some old) facet old false []
  kept-without-inputs was facet kept old none now =
      facet-kept rules scene moved flags values was kept facet old old [] false (ap (map (next_outputs rules scene moved flags values was.inputs kept)) now)
      (ap (list_any (next_changed rules scene moved flags values facet.def.compare_input was.inputs kept)) now)
      (subst (λ (xs : List InputNode). false ≡ (false || not (same_nodes xs facet.inputs))) (sym none) (ap (λ (xs : List InputNode). not (same_nodes [] xs)) now)) refl

  pub next-without-inputs : (transition : Transition) (setup : Setup) (old : State) (kept : Vertex → List (List Val)) (f : ℕ) (v : Val) → old.values (Facet f) ≡ option_map (facet_value rules old.scene old.values) (facet_at old.setup f)
      → kept (Facet f) ≡ inputs_of rules old.setup old.scene old.values (Facet f) → old.values (Facet f) ≡ Some v → kept (Facet f) ≡ [] → get_or setup.config.inputs f [] ≡ []
      → IsNext rules transition setup scene moved flags values old kept (Facet f) (Some v) false []
  next-without-inputs transition setup old kept f v combined kept_is some none now facet there =
      let inputs : [] ≡ facet.inputs = ap (map (input_node setup.defs.node_defs)) (sym now) ∙ present-inputs (slice_get setup.defs.facets f) (inputs_at setup f) facet there in
      subst (λ (o : Option Val). IsNextFacet rules scene moved flags values (facet_at old.setup f) (kept (Facet f)) o facet v false []) (sym some)
      (was-without-inputs (λ (o : Option PresentFacet). IsNextFacet rules scene moved flags values o (kept (Facet f)) (Some v) facet v false []) (facet_value rules old.scene old.values) (node_outputs rules old.scene old.values) v (facet_at old.setup f)
      (sym some ∙ combined) (sym none ∙ kept_is) (λ was e. kept-without-inputs was facet (kept (Facet f)) v e inputs))

  -- a facet that lasts is found already
  pub next-lasting : (transition : Transition) (setup old_setup : Setup) (old_scene : SceneView) (old s : Shelved) → IsKept rules old_setup old_scene old.facets old.fields old.inputs → flags ≡ flagged s.facet_flags s.field_flags → values ≡ held s.facets s.fields
      → AreLasting (IsStillIn setup old) s → (v : Vertex) → vertex_lasts s.lasting v ≡ true
      → IsNext rules transition setup scene moved flags values (state_of old_setup old_scene old.facets old.fields) (held_inputs old.inputs) v (held s.facets s.fields v) (flagged s.facet_flags s.field_flags v) (held_inputs s.inputs v)
  next-lasting transition setup old_setup old_scene old s kept flags_are values_are all (Field f) e = absurd (false-true e)
  next-lasting transition setup old_setup old_scene old s kept flags_are values_are all (Facet f) e =
      let one = all f e in
      let state : State = state_of old_setup old_scene old.facets old.fields in
      let next : IsNext rules transition setup scene moved flags values state (held_inputs old.inputs) (Facet f) (Some one.value) false [] =
      next-without-inputs transition setup state (held_inputs old.inputs) f one.value (kept.combined f) (kept.inputs_kept f) one.was.0.0 one.was.0.1 one.was.1 in
      subst (λ (o : Option Val). IsNext rules transition setup scene moved flags values state (held_inputs old.inputs) (Facet f) o (flagged s.facet_flags s.field_flags (Facet f)) (held_inputs s.inputs (Facet f))) (sym one.value_is)
      (subst (λ (b : Bool). IsNext rules transition setup scene moved flags values state (held_inputs old.inputs) (Facet f) (Some one.value) b (held_inputs s.inputs (Facet f))) (sym one.flag_is)
      (subst (λ (xs : List (List Val)). IsNext rules transition setup scene moved flags values state (held_inputs old.inputs) (Facet f) (Some one.value) false xs) (sym one.inputs_are) next))

  -- what is put of a facet or field is what was found of it
  pub next-put : (transition : Transition) (setup : Setup) (old : State) (kept : Vertex → List (List Val)) (v : Vertex) (x o : Option Val) (b c : Bool) (ins ks : List (List Val)) → IsNext rules transition setup scene moved flags values old kept v x b ins
      → o ≡ x → c ≡ b → ks ≡ inputs_put v ins → IsNext rules transition setup scene moved flags values old kept v o c ks
  next-put transition setup old kept (Facet f) x o b c ins ks next e d k =
      subst (λ (y : Option Val). IsNext rules transition setup scene moved flags values old kept (Facet f) y c ks) (sym e)
      (subst (λ (y : Bool). IsNext rules transition setup scene moved flags values old kept (Facet f) x y ks) (sym d)
      (subst (λ (ys : List (List Val)). IsNext rules transition setup scene moved flags values old kept (Facet f) x b ys) (sym k) next))
  next-put transition setup old kept (Field f) x o b c ins ks next e d k =
      subst (λ (y : Option Val). IsNext rules transition setup scene moved flags values old kept (Field f) y c ks) (sym e)
      (subst (λ (y : Bool). IsNext rules transition setup scene moved flags values old kept (Field f) x y ks) (sym d) next)

-- where the configuration stays, a facet that has a value and whose inputs give nothing has no inputs
pub stay-still : (rules : Rules) (old_setup setup : Setup) (scene : SceneView) (s : Shelved) → IsKept rules old_setup scene s.facets s.fields s.inputs → IsContinued old_setup setup → StayStill setup s
stay-still rules old_setup setup scene s kept continued f v still =
    was-without-inputs (λ (o : Option PresentFacet). facet_at old_setup f ≡ o → get_or setup.config.inputs f [] ≡ []) (facet_value rules scene (held s.facets s.fields)) (node_outputs rules scene (held s.facets s.fields)) v (facet_at old_setup f)
    (sym still.0 ∙ kept.combined f) (sym still.1 ∙ kept.inputs_kept f)
    (λ was e there. none-mapped (input_node setup.defs.node_defs) (get_or setup.config.inputs f []) (sym (present-inputs (slice_get setup.defs.facets f) (inputs_at setup f) was (continued.facets f was there) ∙ e))) refl

-- what lasts stays so where another facet or a field is put
pub lasting-kept : (P : ℕ → Val → Type 0) (old new : Shelved) (v : Vertex) (x : Option Val) (b : Bool) (ins : List (List Val)) → AreLasting P old → new.lasting ≡ old.lasting → vertex_lasts old.lasting v ≡ false
    → Puts (held old.facets old.fields) (held new.facets new.fields) v x → Puts (flagged old.facet_flags old.field_flags) (flagged new.facet_flags new.field_flags) v b → Puts (held_inputs old.inputs) (held_inputs new.inputs) v ins → AreLasting P new
lasting-kept P old new v x b ins all same other value flag inputs f e =
    let lasts_before : lasts old.lasting f ≡ true = subst (λ (l : List Bool). lasts l f ≡ true) same e in
    let one = all f lasts_before in
    let apart : Facet f ≡ v → ⊥ = λ is. false-true (sym (subst (λ (w : Vertex). vertex_lasts old.lasting w ≡ false) (sym is) other) ∙ lasts_before) in
    record {
      value = one.value;
      was = one.was;
      value_is = ⊎_elim (λ is. absurd (apart is)) (λ stays. stays ∙ one.value_is) (value.others (Facet f));
      inputs_are = ⊎_elim (λ is. absurd (apart is)) (λ stays. stays ∙ one.inputs_are) (inputs.others (Facet f));
      flag_is = ⊎_elim (λ is. absurd (apart is)) (λ stays. stays ∙ one.flag_is) (flag.others (Facet f));
    }

pub put-self : (inputs : List (List (List Val))) (v : Vertex) → held_inputs inputs v ≡ inputs_put v (held_inputs inputs v)
put-self inputs (Facet f) = refl
put-self inputs (Field f) = refl
