-- What filters go by of a state is what is lent of its slots and of the registry.
use Rattle.std.proofs.Common.{◌≡◌, ◌∙◌, ℕ, List, Bool, Option, Some, ap, sym}
use Rattle.std.specs.Option.{unwrap_or}
use Rattle.line_tree.specs.Text.{max_len}
use Rattle.configuration.specs.declared.vertex.Vertex.TheVariants.{Facet}
use Rattle.selection.specs.Selections.{SelectionView}
use Rattle.transaction.specs.declared.effect_kinds.EffectKinds.{EffectKinds}
use Rattle.values.specs.declared.val.Val.{Val}
use Rattle.values.specs.Declarations.{Declarations}
use Rattle.values.specs.Reading.{nothing}
use Rattle.filters.specs.Facets.{FacetsView}
use Rattle.filters.specs.Starts.{StartView}
use Rattle.facet_slots.specs.Stepping.{State}
use Rattle.state.specs.Cutting.{allows_several}
use Rattle.state.specs.Drafting.{facets_in, kinds_of, start_in, value_in}

abbrev kinds_with : List (Option ℕ) → ℕ → EffectKinds
kinds_with maps compartments = record { maps = maps; compartments = compartments }

pub kinds-are : (kinds : EffectKinds) (d : Declarations) → kinds.maps ≡ d.maps → kinds.compartments ≡ d.compartments → kinds ≡ kinds_of d
kinds-are kinds d maps compartments =
    ap (λ (ms : List (Option ℕ)). kinds_with ms kinds.compartments) maps ∙ ap (λ (n : ℕ). kinds_with d.maps n) compartments

abbrev start_with : List ℕ → SelectionView → Bool → EffectKinds → StartView
start_with document selection several kinds = record { document = document; selection = selection; allows_multiple = several; kinds = kinds; max = max_len }

pub start-with-is : (d : Declarations) (old : State) (document : List ℕ) (selection : SelectionView) (several : Bool) (kinds : EffectKinds) → document ≡ old.scene.document → selection ≡ old.scene.selection → several ≡ allows_several old → kinds.maps ≡ d.maps → kinds.compartments ≡ d.compartments
    → start_with document selection several kinds ≡ start_in d old
start-with-is d old document selection several kinds a b c m n =
    ap (λ (x : List ℕ). start_with x selection several kinds) a
    ∙ ap (λ (x : SelectionView). start_with old.scene.document x several kinds) b
    ∙ ap (λ (x : Bool). start_with old.scene.document old.scene.selection x kinds) c
    ∙ ap (start_with old.scene.document old.scene.selection (allows_several old)) (kinds-are kinds d m n)

-- a value that is found
value-is : (old : State) (f : ℕ) (v : Val) → old.values (Facet f) ≡ Some v → v ≡ value_in old f
value-is old f v e = ap (λ (o : Option Val). unwrap_or o nothing) (sym e)

abbrev facets_with : Val → Val → Val → Val → FacetsView
facets_with a b c d = record { change_filter = a; transaction_filter = b; transaction_extender = c; filter_data = d }

pub facets-are : (old : State) (a b c d : Val) → old.values (Facet 4) ≡ Some a → old.values (Facet 5) ≡ Some b → old.values (Facet 6) ≡ Some c → old.values (Facet 9) ≡ Some d → facets_with a b c d ≡ facets_in old
facets-are old a b c d p q r s =
    ap (λ (x : Val). facets_with x b c d) (value-is old 4 a p)
    ∙ ap (λ (x : Val). facets_with (value_in old 4) x c d) (value-is old 5 b q)
    ∙ ap (λ (x : Val). facets_with (value_in old 4) (value_in old 5) x d) (value-is old 6 c r)
    ∙ ap (facets_with (value_in old 4) (value_in old 5) (value_in old 6)) (value-is old 9 d s)
