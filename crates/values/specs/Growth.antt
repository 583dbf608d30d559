-- When what is declared has grown: an id keeps its definition.
use Rattle.std.specs.Prelude.{◌≡◌, ℕ, ◌≤◌, List, true, Some, slice_get}
use Rattle.ext_tree.specs.Tree.{listed}
use Rattle.transaction.specs.Effects.{map_of}
use Rattle.values.specs.Declarations.{Declarations, is_placed}

-- each entry of a list keeps its place
abbrev pub Keeps : {X : Type 0} → List X → List X → Type 0
Keeps {X} old new = (id : ℕ) (x : X) → slice_get old id ≡ Some x → slice_get new id ≡ Some x

-- Growth: each facet, field, node and effect kind keeps its id and its definition; an effect kind that has a pair keeps it;
-- facets keep what they enable, and fields that are placed stay so, and keep what they provide.
pub record IsGrowth (old new : Declarations) : Type 0 where
  pub facets : Keeps old.facets new.facets
  pub fields : Keeps old.fields new.fields
  pub nodes : Keeps old.nodes new.nodes
  pub node_defs : Keeps old.node_defs new.node_defs
  pub maps : Keeps old.maps new.maps
  pub pairs : (effect back : ℕ) → map_of old.pairs effect ≡ Some back → map_of new.pairs effect ≡ Some back
  pub enabled : Keeps old.links.enabled new.links.enabled
  pub placed : (field : ℕ) → is_placed old field ≡ true → is_placed new field ≡ true
  pub provided : (field : ℕ) → is_placed old field ≡ true → listed new.links.provided field ≡ listed old.links.provided field
  pub compartments : old.compartments ≤ new.compartments
