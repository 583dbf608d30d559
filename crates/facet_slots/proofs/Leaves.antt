-- A field that leaves and comes back: worked examples.
use Rattle.std.specs.Prelude.{◌≡◌, ℕ, List, [], ◌∷◌, length, Option, None, Some, pos, refl, codes, false}
use Rattle.configuration.specs.declared.dependency.Dependency.TheVariants as dependency
use Rattle.configuration.specs.declared.node_def.NodeDef.TheVariants as node_def
use Rattle.configuration.specs.declared.vertex.Vertex.TheVariants.{Field}
use Rattle.change_desc.specs.declared.section.Section.TheVariants as section
use Rattle.selection.specs.declared.range.Range.{Range}
use Rattle.values.specs.Reading.{int}
use Rattle.values.specs.Shipped.{shipped}
use Rattle.values.specs.Views.{TransactionView}
use Rattle.facet_slots.specs.Setups.{Setup}
use Rattle.facet_slots.specs.Scenes.{SceneView}
use Rattle.facet_slots.specs.Stepping.{State, Stays, Becomes, creation, step}

-- the cursor at the start of a document
abbrev cursor : Range
cursor = record { anchor = 0; head = 0 }

-- a document with the cursor at its start
abbrev scene : List ℕ → SceneView
scene document = record { document = document; selection = record { ranges = cursor ∷ []; main = 0 } }

-- the insertion of a text at the end of a document
abbrev insertion : List ℕ → List ℕ → List ℕ → TransactionView
insertion start text document =
    record {
      changes = section.Keep (length start) ∷ section.Replace 0 text ∷ [];
      start = start;
      document = document;
      start_selection = record { ranges = cursor ∷ []; main = 0 };
      selection = record { ranges = cursor ∷ []; main = 0 };
      given = false;
      effects = [];
      inverted = [];
      annotations = [];
    }

-- a transaction that changes nothing in a document
abbrev unchanged : List ℕ → TransactionView
unchanged start = record (insertion start [] start) { changes = section.Keep (length start) ∷ [] }

-- one field, created as the length of the document, to which each update adds one; its nodes are 0, without a first value, and
-- 1, which gives it 7
abbrev with_node : Option ℕ → Setup
with_node node =
    record {
      defs =
          record {
            facets = [];
            fields = record { create = 3; update = 2; compare = 1; reads = dependency.Doc ∷ []; listens = [] } ∷ [];
            node_defs = node_def.Field ∷ node_def.Init (int (pos 7)) ∷ [];
          };
      config = record { base = []; flat = []; inputs = []; fields = node ∷ []; order = Field 0 ∷ []; contents = [] };
    }

-- the field is created over two characters
pub created-is : (creation shipped (with_node (Some 0)) (scene (codes "ab"))).values (Field 0) ≡ Some (int (pos 2))
created-is = refl

-- it leaves, and is absent
abbrev left : State
left = step shipped (creation shipped (with_node (Some 0)) (scene (codes "ab"))) (Becomes (with_node None)) (unchanged (codes "ab"))

pub left-is : left.values (Field 0) ≡ None
left-is = refl

-- a character more, without the field
abbrev longer : State
longer = step shipped left (Stays (with_node None)) (insertion (codes "ab") (codes "c") (codes "abc"))

-- it comes back while two more are inserted: it is created over the three of before, and then updated once
pub comes_back-is : (step shipped longer (Becomes (with_node (Some 0))) (insertion (codes "abc") (codes "de") (codes "abcde"))).values (Field 0) ≡ Some (int (pos 4))
comes_back-is = refl

-- a first value comes: the field is made anew from it, and then updated
pub init_comes-is : (step shipped (creation shipped (with_node (Some 0)) (scene (codes "ab"))) (Becomes (with_node (Some 1))) (insertion (codes "ab") (codes "c") (codes "abc"))).values (Field 0) ≡ Some (int (pos 8))
init_comes-is = refl

-- it stays: the field keeps its value
pub init_stays-is : (step shipped (creation shipped (with_node (Some 1)) (scene (codes "ab"))) (Becomes (with_node (Some 1))) (insertion (codes "ab") (codes "c") (codes "abc"))).values (Field 0) ≡ Some (int (pos 8))
init_stays-is = refl

-- it goes: the field is created over the document of before
pub init_goes-is : (step shipped (creation shipped (with_node (Some 1)) (scene (codes "ab"))) (Becomes (with_node (Some 0))) (insertion (codes "ab") (codes "c") (codes "abc"))).values (Field 0) ≡ Some (int (pos 3))
init_goes-is = refl
