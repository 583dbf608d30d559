use Rattle.std.proofs.Common.{◌++◌, ℕ, List, [], ◌∷◌, reverse, subst, sym}
use Rattle.dep_graph.specs.declared.edge.Edge.{Edge}
use Rattle.dep_graph.specs.Order.{IsChain, IsCircle}
use Rattle.dep_graph.specs.Laws.{EachDepends, IsRing, HasNoOrder}
use Rattle.dep_graph.proofs.Members.{in-reverse}

-- the end of a chain is a chain
chain-end : (es : List Edge) (xs : List ℕ) (y : ℕ) (ys : List ℕ) (last : ℕ) → IsChain es (xs ++ y ∷ ys) last → IsChain es (y ∷ ys) last
chain-end es [] y ys last c = c
chain-end es (x ∷ []) y ys last c = c.1
chain-end es (x ∷ w ∷ xs) y ys last c = chain-end es (w ∷ xs) y ys last c.1

each-depends : (es : List Edge) (vs : List ℕ) (last : ℕ) → IsChain es vs last → EachDepends es vs last
each-depends es [] last c = tt
each-depends es (v ∷ []) last c = c.depends
each-depends es (v ∷ w ∷ vs) last c = (c.0.depends, each-depends es (w ∷ vs) last c.1)

pub circles_rings : (count : ℕ) (es : List Edge) (members : List ℕ) → IsCircle count es members → IsRing es members
circles_rings count es members c =
    subst (IsRing es) (sym c.members_are)
    (each-depends es (c.first_member ∷ c.other_members) c.first_member
    (chain-end es c.before c.first_member c.other_members c.first_member
    (subst (λ (ms : List ℕ). IsChain es (c.before ++ ms) c.first_member) c.members_are c.chain)))

pub circles_no_order : (count : ℕ) (es : List Edge) (members : List ℕ) → IsCircle count es members → HasNoOrder count es
circles_no_order count es members c order o = c.starts.is_stuck (reverse order) o.ordered (in-reverse order c.first (o.complete c.first c.starts.within))
