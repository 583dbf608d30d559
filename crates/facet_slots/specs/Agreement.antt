-- Definitions only grow, and what follows for two configurations over them.
use Rattle.std.specs.Prelude.{◌≡◌, ℕ, List, [], ◌++◌, drop, length, None, Some}
use Rattle.std.specs.List.{AllByRecursion}
use Rattle.values.specs.declared.val.Val.{Val}
use Rattle.values.specs.Views.{TransactionView}
use Rattle.facet_slots.specs.Setups.{Definitions, Setup, InputNode, PresentFacet, PresentField, facet_at, field_at}
use Rattle.facet_slots.specs.Stepping.{Transition, Update}

-- a list that begins with another one
abbrev pub Extends : {X : Type 0} → (old new : List X) → Type 0
Extends old new = new ≡ old ++ drop (length old) new

-- Growth: definitions are added after those that there are, so that an id keeps its definition.
pub record IsGrown (old new : Definitions) : Type 0 where
  pub facets : Extends old.facets new.facets
  pub fields : Extends old.fields new.fields
  pub node_defs : Extends old.node_defs new.node_defs

-- inputs of one node are defined alike
abbrev pub NodesAgree : List InputNode → List InputNode → Type 0
NodesAgree was is = AllByRecursion (λ (a : InputNode). AllByRecursion (λ (b : InputNode). a.node ≡ b.node → a.input ≡ b.input) is) was

-- Agree: what stands in both configurations has the same definition.
pub record Agree (old new : Setup) : Type 0 where
  pub facets : (f : ℕ) (was facet : PresentFacet) → facet_at old f ≡ Some was → facet_at new f ≡ Some facet → was.def ≡ facet.def
  pub nodes : (f : ℕ) (was facet : PresentFacet) → facet_at old f ≡ Some was → facet_at new f ≡ Some facet → NodesAgree was.inputs facet.inputs
  pub fields : (f : ℕ) (was field : PresentField) → field_at old f ≡ Some was → field_at new f ≡ Some field → was.def ≡ field.def

-- the same configuration over what was declared since: new facets have no inputs, and new fields are absent
pub record IsContinued (old new : Setup) : Type 0 where
  pub facets : (f : ℕ) (facet : PresentFacet) → facet_at old f ≡ Some facet → facet_at new f ≡ Some facet
  pub new_facets : (f : ℕ) (facet : PresentFacet) → facet_at old f ≡ None → facet_at new f ≡ Some facet → facet.inputs ≡ []
  pub fields : (f : ℕ) → field_at new f ≡ field_at old f

-- Follows: a transition leads from the one to the other; a transaction alone keeps the configuration.
pub record Follows (transition : Transition) (old new : Setup) : Type 0 where
  pub agree : Agree old new
  pub continued : (t : TransactionView) → transition ≡ Update t → IsContinued old new
