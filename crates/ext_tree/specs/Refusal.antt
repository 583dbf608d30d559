use Rattle.std.specs.Prelude.{ℕ, List, [], ◌∷◌, ◌++◌, cond, eqb, find, length, Option, Some, None, is_some}
use Rattle.std.specs.Option.{option_or, option_map}
use Rattle.compartments.specs.Contents.{content_nodes}
use Rattle.ext_tree.specs.declared.ext_error.ExtError.{ExtError}
use Rattle.ext_tree.specs.declared.ext_error.ExtError.TheVariants as error
use Rattle.ext_tree.specs.Unknown.{least_unknown}
use Rattle.ext_tree.specs.Tree.{Tree}
use Rattle.ext_tree.specs.Unfolding.{Occurrence, compartment_of, is_slot_of, stands_on, unfolding_of}

-- refusal: an id that is no node of the arena; or a slot that stands on its own compartment's path, with the slot nodes
-- from that one to this; or a second slot of a compartment, with the first and this one
pub data Refusal : Type 0 where
  Unknown : ℕ → Refusal
  Loop : List ℕ → Refusal
  Duplicate : ℕ → ℕ → ℕ → Refusal

-- refusal of an error: none when out of memory
abbrev pub refusal_of : ExtError → Option Refusal
refusal_of error.NoMemory = None
refusal_of (error.UnknownExt id) = Some (Unknown id)
refusal_of (error.DuplicateCompartment compartment first second) = Some (Duplicate compartment first second)
refusal_of (error.CompartmentLoop path) = Some (Loop path)

-- from a slot: the slot nodes of a path from the one of a compartment on
abbrev pub from_slot : Tree → ℕ → List ℕ → List ℕ
from_slot t c [] = []
from_slot t c (s ∷ ss) = cond (is_slot_of t c s) (s ∷ ss) (from_slot t c ss)

-- first met: the first slot node met of a compartment
abbrev pub first_met : Tree → ℕ → List ℕ → Option ℕ
first_met t c met = find (is_slot_of t c) met

-- duplicate: another slot node of the compartment came earlier
abbrev pub duplicate : ℕ → ℕ → Option ℕ → Option Refusal
duplicate c n None = None
duplicate c n (Some m) = cond (eqb m n) None (Some (Duplicate c m n))

-- refused: why the walk ends at a node, where it does; a loop before a duplicate
abbrev pub refused_as : Tree → List ℕ → ℕ → List ℕ → Option ℕ → Option Refusal
refused_as t met n path None = None
refused_as t met n path (Some c) = cond (stands_on t path (Some c)) (Some (Loop (from_slot t c path ++ n ∷ []))) (duplicate c n (first_met t c met))

-- refused: why the walk ends at an occurrence
abbrev pub refused : Tree → List ℕ → Occurrence → Option Refusal
refused t met o = refused_as t met o.node o.path (compartment_of t o.node)

-- meet: of each compartment the first slot node is kept
abbrev pub meet_as : Tree → List ℕ → ℕ → Option ℕ → List ℕ
meet_as t met n None = met
meet_as t met n (Some c) = cond (is_some (first_met t c met)) met (met ++ n ∷ [])

-- meet: a node of a tree is met
abbrev pub meet : Tree → List ℕ → ℕ → List ℕ
meet t met n = meet_as t met n (compartment_of t n)

-- refusal of a walk: the first, after these slot nodes were met
abbrev pub refusal_after : Tree → List ℕ → List Occurrence → Option Refusal
refusal_after t met [] = None
refusal_after t met (o ∷ os) = option_or (refused t met o) (refusal_after t (meet t met o.node) os)

-- refusal of a whole walk
abbrev pub refusal : Tree → List Occurrence → Option Refusal
refusal t os = refusal_after t [] os

-- slots met: of each compartment the first slot node, after a walk
abbrev pub met_after : Tree → List ℕ → List Occurrence → List ℕ
met_after t met [] = met
met_after t met (o ∷ os) = met_after t (meet t met o.node) os

-- slots met by a whole walk
abbrev pub slots_met : Tree → List Occurrence → List ℕ
slots_met t os = met_after t [] os

-- ids of a call: its roots and the nodes that compartments are set to
abbrev pub ids_of : Tree → List ℕ → List ℕ
ids_of t roots = roots ++ content_nodes t.contents

-- unknown of a call: the least of the ids that are no node of the arena
abbrev pub unknown : ℕ → List ℕ → Option Refusal
unknown count ids = option_map Unknown (least_unknown count ids)

-- first refusal: an unknown id, else that of the walk
abbrev pub first_refusal : Tree → List ℕ → Option Refusal
first_refusal t roots = option_or (unknown (length t.nodes) (ids_of t roots)) (refusal t (unfolding_of t roots))
