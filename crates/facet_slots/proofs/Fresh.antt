-- The state of nothing, from which a first configuration is entered.
use Rattle.std.proofs.Common.{◌≡◌, ◌≤◌, ◌+◌, ◌∙◌, ℕ, List, [], Option, None, Some, refl, ap, subst}
use Rattle.std.proofs.Math.Path.{fun_ext}
use Rattle.configuration.specs.declared.vertex.Vertex.{Vertex}
use Rattle.configuration.specs.declared.vertex.Vertex.TheVariants.{Facet, Field}
use Rattle.values.specs.declared.val.Val.{Val}
use Rattle.values.specs.Rules.{Rules}
use Rattle.values.specs.Views.{TransactionView}
use Rattle.facet_slots.specs.Setups.{Setup, PresentFacet, PresentField}
use Rattle.facet_slots.specs.Scenes.{SceneView, Values}
use Rattle.facet_slots.specs.Stepping.{State, Transition, Enter, Update, empty_state, no_setup}
use Rattle.facet_slots.specs.Order.{AllNeeds, IsVertex}
use Rattle.facet_slots.specs.Agreement.{Follows}
use Rattle.facet_slots.specs.Lawful.{IsLawful}
use Rattle.facet_slots.specs.Keeping.{held, state_of, IsKept}
use Rattle.facet_slots.proofs.Held.{record_state}

no-some : {X : Type 0} (x : X) → None ≡ Some x → ⊥
no-some x e = cc

no-update : (t : TransactionView) → Enter ≡ Update t → ⊥
no-update t e = cc

needs-nothing : (v : Vertex) → AllNeeds (IsVertex no_setup) no_setup v
needs-nothing (Facet f) = tt
needs-nothing (Field f) = tt

pub nothing-lawful : (rules : Rules) → IsLawful rules no_setup
nothing-lawful rules = record { facets = λ f facet at. absurd (no-some facet at); fields = λ f field at. absurd (no-some field at); reads = needs-nothing }

pub nothing-kept : (rules : Rules) (scene : SceneView) → IsKept rules no_setup scene [] [] []
nothing-kept rules scene =
    record {
      room = record { facets_fit = refl; fields_fit = refl; inputs_fit = refl };
      combined = λ f. refl;
      inputs_kept = λ f. refl;
      fields_fit = λ f field at. absurd (no-some field at);
      absent = λ f none. refl;
    }

pub nothing-follows : (setup : Setup) → Follows Enter no_setup setup
nothing-follows setup =
    record {
      agree = record { facets = λ f was facet at. absurd (no-some was at); nodes = λ f was facet at. absurd (no-some was at); fields = λ f was field at. absurd (no-some was at) };
      continued = λ t same. absurd (no-update t same);
    }

nothing-at : (v : Vertex) → held [] [] v ≡ None
nothing-at (Facet f) = refl
nothing-at (Field f) = refl

nothing-held : held [] [] ≡ (λ v. None)
nothing-held = fun_ext nothing-at

pub state-nothing : (setup : Setup) (scene seen : SceneView) (facets fields : List (Option Val)) → setup ≡ no_setup → scene ≡ seen → facets ≡ [] → fields ≡ [] → state_of setup scene facets fields ≡ empty_state seen
state-nothing setup scene seen facets fields p q r t =
    ap (λ (s : Setup). state_of s scene facets fields) p
    ∙ ap (λ (vs : List (Option Val)). state_of no_setup scene vs fields) r
    ∙ ap (λ (vs : List (Option Val)). state_of no_setup scene [] vs) t
    ∙ ap (λ (s : SceneView). state_of no_setup s [] []) q
    ∙ ap (λ (vs : Values). record_state no_setup seen vs) nothing-held
