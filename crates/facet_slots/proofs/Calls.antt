-- The calls that are due: worked numbers.
use Rattle.std.specs.Prelude.{◌≡◌, ℕ, List, [], ◌∷◌, Bool, true, false, Some, pos, refl, codes, replicate}
use Rattle.change_desc.specs.declared.section.Section.{Section}
use Rattle.change_desc.specs.declared.section.Section.TheVariants as section
use Rattle.configuration.specs.declared.dependency.Dependency.TheVariants as dependency
use Rattle.configuration.specs.declared.node_def.NodeDef.TheVariants as node_def
use Rattle.configuration.specs.declared.vertex.Vertex.TheVariants.{Facet, Field}
use Rattle.selection.specs.declared.range.Range.{Range}
use Rattle.values.specs.Reading.{int}
use Rattle.values.specs.Shipped.{shipped}
use Rattle.values.specs.Views.{TransactionView}
use Rattle.facet_slots.specs.Setups.{Setup}
use Rattle.facet_slots.specs.Scenes.{SceneView}
use Rattle.facet_slots.specs.Stepping.{Enter, Update, empty_state, creation}
use Rattle.facet_slots.specs.Due.{transition_calls}

abbrev cursor : Range
cursor = record { anchor = 0; head = 0 }

abbrev ab : SceneView
ab = record { document = codes "ab"; selection = record { ranges = cursor ∷ []; main = 0 } }

-- Facet 0 is the length of the document, facet 1 reads facet 0, facet 2 has a fixed input, and ten more have no input. Field 0
-- counts the updates.
abbrev setup : (compare_input : ℕ) → Setup
setup compare_input =
    record {
      defs =
          record {
            facets =
                record { combine = 5; compare_input = compare_input; compare = 1; is_static = false }
                ∷ record { combine = 5; compare_input = 1; compare = 1; is_static = false }
                ∷ replicate 11 (record { combine = 1; compare_input = 1; compare = 1; is_static = false });
            fields = record { create = 2; update = 2; compare = 1; reads = []; listens = [] } ∷ [];
            node_defs = node_def.Compute 1 (dependency.Doc ∷ []) ∷ node_def.Compute 5 (dependency.Facet 0 ∷ []) ∷ node_def.Of (int (pos 7)) ∷ node_def.Field ∷ [];
          };
      config =
          record {
            base = [];
            flat = [];
            inputs = (0 ∷ []) ∷ (1 ∷ []) ∷ (2 ∷ []) ∷ replicate 10 [];
            fields = Some 3 ∷ [];
            order = Facet 0 ∷ Facet 1 ∷ Facet 2 ∷ Facet 3 ∷ Facet 4 ∷ Facet 5 ∷ Facet 6 ∷ Facet 7 ∷ Facet 8 ∷ Facet 9 ∷ Facet 10 ∷ Facet 11 ∷ Facet 12 ∷ Field 0 ∷ [];
            contents = [];
          };
    }

-- a transaction of "ab"
abbrev transaction : List (Section (List ℕ)) → (document : List ℕ) → (given : Bool) → TransactionView
transaction changes document given =
    record {
      changes = changes;
      start = codes "ab";
      document = document;
      start_selection = record { ranges = cursor ∷ []; main = 0 };
      selection = record { ranges = cursor ∷ []; main = 0 };
      given = given;
      effects = [];
      inverted = [];
      annotations = [];
    }

-- the calls of a transaction on the state over "ab"
abbrev calls : (compare_input : ℕ) → TransactionView → ℕ
calls compare_input t = transition_calls shipped (Update t) (creation shipped (setup compare_input) ab) (setup compare_input)

-- creation: one for the field, two for the computed inputs, thirteen for the facets
pub creation-is : transition_calls shipped Enter (empty_state ab) (setup 1) ≡ 16
creation-is = refl

-- an insertion: the field, and both computed inputs with their facets
pub insertion-is : calls 1 (transaction (section.Keep 2 ∷ section.Replace 0 (codes "c") ∷ []) (codes "abc") false) ≡ 5
insertion-is = refl

-- a replacement of the same length: the field, and the input that reads the document
pub replacement-is : calls 1 (transaction (section.Replace 1 (codes "x") ∷ section.Keep 1 ∷ []) (codes "xb") false) ≡ 2
replacement-is = refl

-- with a comparer of inputs that never says 'same', the facet too
pub never_same-is : calls 2 (transaction (section.Replace 1 (codes "x") ∷ section.Keep 1 ∷ []) (codes "xb") false) ≡ 3
never_same-is = refl

-- nothing: the field alone
pub nothing-is : calls 1 (transaction (section.Keep 2 ∷ []) (codes "ab") false) ≡ 1
nothing-is = refl

-- a selection alone: the field
pub selection-is : calls 1 (transaction (section.Keep 2 ∷ []) (codes "ab") true) ≡ 1
selection-is = refl
