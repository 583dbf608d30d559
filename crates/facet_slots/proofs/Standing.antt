-- Laws of states, in the subject's words: what a transaction of nothing does, and what two transactions do.
use Rattle.std.proofs.Common.{◌≡◌, ◌≤◌, ◌<◌, ◌∙◌, ℕ, zero, suc, List, [], ◌∷◌, Option, None, Some, filter, length, slice_get, map, refl, sym, ap, subst, arith, ⊎_elim}
use Rattle.std.proofs.Math.Path.{fun_ext}
use Rattle.std.proofs.lemmas.Bool.{cases_lt}
use Rattle.std.specs.Option.{option_map, unwrap_or}
use Rattle.std.specs.List.{list_any}
use Rattle.std.specs.Prelude.{eqb}
use Rattle.configuration.specs.declared.vertex.Vertex.{Vertex}
use Rattle.configuration.specs.declared.vertex.Vertex.TheVariants.{Facet, Field}
use Rattle.values.specs.declared.val.Val.{Val}
use Rattle.values.specs.declared.shown_effect.ShownEffect.{ShownEffect}
use Rattle.values.specs.Reading.{nothing}
use Rattle.values.specs.Rules.{Rules}
use Rattle.values.specs.Views.{DepsView, TransactionView}
use Rattle.facet_slots.specs.Setups.{Setup, PresentField, facet_at, field_at, order_of, vertex_count}
use Rattle.facet_slots.specs.Scenes.{SceneView, Values, shown}
use Rattle.facet_slots.specs.FacetValues.{facet_value}
use Rattle.facet_slots.specs.Settling.{FieldRule, field_value, round, values_of}
use Rattle.facet_slots.specs.Stepping.{State, Update, heard, next, rule_of, scene_after}
use Rattle.facet_slots.specs.Order.{IsOrdered}
use Rattle.facet_slots.specs.Keeping.{AreKnown}
use Rattle.facet_slots.proofs.Rounds.{once-next, round-local}
use Rattle.facet_slots.proofs.Held.{facet-beyond, field-beyond, state-same}
use Rattle.facet_slots.proofs.Laws.{field-folds}
use Rattle.facet_slots.proofs.Places.{facet-cases, field-cases}

-- Values that finding all anew does not change are the settled ones: there are no others.
module _ (rules : Rules) (setup : Setup) (ordered : IsOrdered setup) (scene : SceneView) (rule : FieldRule) (values : Values) (stands : (v : Vertex) → round rules setup scene rule values v ≡ values v) where
  abbrev wanted : Values
  wanted = values_of rules setup scene rule

  known-until : (n : ℕ) → n ≤ length (order_of setup) → AreKnown setup values wanted n
  known-until zero le k v lt at = absurd (omega (arith, lt))
  known-until (suc n) le k v lt at =
      ⊎_elim (λ before. known-until n (omega (arith, le)) k v before at)
      (λ past. let here : k ≡ n = omega (arith, lt, past) in
      sym (stands v) ∙ once-next setup (round rules setup scene rule) None (round-local rules setup scene rule) ordered values n v (omega (arith, le)) (subst (λ (i : ℕ). slice_get (order_of setup) i ≡ Some v) here at) (known-until n (omega (arith, le)))) (cases_lt k n)

  is-settled : (v : Vertex) → values v ≡ wanted v
  is-settled (Facet f) =
      ⊎_elim (λ inside. let at = ordered.complete (Facet f) inside in known-until (length (order_of setup)) (omega arith) at.0 (Facet f) at.1 at.2)
      (λ past. sym (stands (Facet f)) ∙ ap (option_map (facet_value rules scene values)) past.1 ∙ sym (facet-beyond rules setup ordered scene rule f past.1 (vertex_count setup))) (facet-cases setup f)
  is-settled (Field f) =
      ⊎_elim (λ inside. let at = ordered.complete (Field f) inside in known-until (length (order_of setup)) (omega arith) at.0 (Field f) at.1 at.2)
      (λ past. sym (stands (Field f)) ∙ ap (option_map (field_value scene rule values f)) past.1 ∙ sym (field-beyond rules setup ordered scene rule f past.1 (vertex_count setup))) (field-cases setup f)

  pub only-settled : values ≡ values_of rules setup scene rule
  only-settled = fun_ext is-settled

-- A state of one configuration: each facet's value is its present inputs combined, each present field has a value, and an absent
-- field has none.
pub record IsState (rules : Rules) (s : State) : Type 0 where
  pub combined : (f : ℕ) → s.values (Facet f) ≡ option_map (facet_value rules s.scene s.values) (facet_at s.setup f)
  pub present : (f : ℕ) (field : PresentField) → field_at s.setup f ≡ Some field → s.values (Field f) ≡ Some (unwrap_or (s.values (Field f)) nothing)
  pub absent : (f : ℕ) → field_at s.setup f ≡ None → s.values (Field f) ≡ None

-- the updater of each present field keeps the value, whatever it reads
abbrev pub UpdatersKeep : Rules → State → TransactionView → Type 0
UpdatersKeep rules s t =
    (f : ℕ) (field : PresentField) → field_at s.setup f ≡ Some field → (seen : DepsView)
    → rules.update field.def.update (unwrap_or (s.values (Field f)) nothing) (heard field.def.listens t) seen ≡ unwrap_or (s.values (Field f)) nothing

-- A transaction that leaves the document and the selection as they are, and whose updaters keep their values, changes nothing.
module _ (rules : Rules) (s : State) (is : IsState rules s) (ordered : IsOrdered s.setup) (t : TransactionView) (still : scene_after (Update t) s.scene ≡ s.scene) (keep : UpdatersKeep rules s t) where
  field-stands : (f : ℕ) (o : Option PresentField) → field_at s.setup f ≡ o → option_map (field_value s.scene (rule_of rules (Update t) s) s.values f) o ≡ s.values (Field f)
  field-stands f None at = sym (is.absent f at)
  field-stands f (Some field) at = ap Some (keep f field at (shown s.scene s.values field.def.reads)) ∙ sym (is.present f field at)

  all-stands : (v : Vertex) → round rules s.setup s.scene (rule_of rules (Update t) s) s.values v ≡ s.values v
  all-stands (Facet f) = sym (is.combined f)
  all-stands (Field f) = field-stands f (field_at s.setup f) refl

  values-stand : values_of rules s.setup (scene_after (Update t) s.scene) (rule_of rules (Update t) s) ≡ s.values
  values-stand =
      ap (λ (scene : SceneView). values_of rules s.setup scene (rule_of rules (Update t) s)) still
      ∙ sym (only-settled rules s.setup ordered s.scene (rule_of rules (Update t) s) s.values all-stands)

  pub nothing-changes : next rules s s.setup t ≡ s
  nothing-changes = state-same s.setup (scene_after (Update t) s.scene) s.scene (values_of rules s.setup (scene_after (Update t) s.scene) (rule_of rules (Update t) s)) s.values still values-stand

-- a transaction as a field is shown it that listens to nothing
abbrev pub quiet : TransactionView → TransactionView
quiet t = record t { effects = [] }

none-heard : (es : List ShownEffect) → filter (λ (e : ShownEffect). list_any (eqb e.id) []) es ≡ []
none-heard [] = refl
none-heard (e ∷ es) = none-heard es

heard-nothing : (t : TransactionView) → heard [] t ≡ quiet t
heard-nothing t = ap (λ (es : List ShownEffect). record t { effects = es }) (none-heard t.effects)

-- Two transactions fold: a field that listens to nothing has its updater's answer on the second one, of its answer on the first.
module _ (rules : Rules) (setup : Setup) (ordered : IsOrdered setup) (old : State) (t u : TransactionView) (f : ℕ) (field : PresentField) (at : field_at setup f ≡ Some field) (listens : field.def.listens ≡ []) (value : Val) (was : old.values (Field f) ≡ Some value) where
  abbrev once : State
  once = next rules old setup t

  abbrev twice : State
  twice = next rules once setup u

  abbrev seen : State → DepsView
  seen s = shown s.scene s.values field.def.reads

  one-more : (s : State) (k : TransactionView) (v : Val) → s.values (Field f) ≡ Some v → (next rules s setup k).values (Field f) ≡ Some (rules.update field.def.update v (quiet k) (seen (next rules s setup k)))
  one-more s k v has =
      field-folds rules setup ordered s k f field at
      ∙ ap (λ (o : Option Val). Some (rules.update field.def.update (unwrap_or o nothing) (heard field.def.listens k) (seen (next rules s setup k)))) has
      ∙ ap (λ (ids : List ℕ). Some (rules.update field.def.update v (heard ids k) (seen (next rules s setup k)))) listens
      ∙ ap (λ (shown : TransactionView). Some (rules.update field.def.update v shown (seen (next rules s setup k)))) (heard-nothing k)

  pub two-fold : twice.values (Field f) ≡ Some (rules.update field.def.update (rules.update field.def.update value (quiet t) (seen once)) (quiet u) (seen twice))
  two-fold = one-more once u (rules.update field.def.update value (quiet t) (seen once)) (one-more old t value was)
