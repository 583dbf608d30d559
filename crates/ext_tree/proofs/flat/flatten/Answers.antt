use Rattle.std.proofs.Common.{◌≡◌, ◌∙◌, ◌++◌, ℕ, List, Option, None, Some, IfSome, length, sym, subst, ap}
use Rattle.std.proofs.lemmas.Result.{err_from_is_err_and}
use Rattle.ext_tree.specs.Unknown.{least_unknown}
use Rattle.compartments.specs.Contents.{content_nodes}
use Rattle.ext_tree.specs.declared.node.Node.{Node}
use Rattle.ext_tree.specs.Links.{LinkLists}
use Rattle.ext_tree.specs.Tree.{IsArena, AreLinksOlder, tree_of}
use Rattle.ext_tree.specs.Unfolding.{unfolding_of, UnfoldsOnce}
use Rattle.ext_tree.specs.declared.visit.Visit.{Visit}
use Rattle.ext_tree.specs.Flat.{leaves}
use Rattle.ext_tree.specs.Taking.{flat}
use Rattle.ext_tree.specs.Refusal.{Refusal, refusal_of, refusal, first_refusal}
use Rattle.ext_tree.proofs.Known.{IsKnownCall, all-known, known-call}
use Rattle.ext_tree.proofs.Choosing.{flat-sorted}
use Rattle.ext_tree.proofs.Enough.{unfold_once}
use Rattle.ext_tree.proofs.flat.flatten.Goals as goal

-- the call as the tests found it
called : (nodes lent : List Node) (contents : List (ℕ × ℕ)) (links : LinkLists) (roots : List ℕ) (count : ℕ) → lent ≡ nodes → IsArena nodes → AreLinksOlder nodes links → count ≡ length nodes
    → None ≡ least_unknown count (roots ++ content_nodes contents) → IsKnownCall (tree_of lent contents links) roots
called nodes lent contents links roots count same arena older is none =
    rw same (known-call nodes contents links roots arena older (sym (subst (λ (n : ℕ). None ≡ least_unknown n (roots ++ content_nodes contents)) is none)))

refused-first : (nodes lent : List Node) (contents : List (ℕ × ℕ)) (links : LinkLists) (roots : List ℕ) (o : Option Refusal) → lent ≡ nodes → IsKnownCall (tree_of lent contents links) roots
    → IfSome o (λ r. refusal (tree_of lent contents links) (unfolding_of (tree_of lent contents links) roots) ≡ Some r) → IfSome o (λ r. first_refusal (tree_of nodes contents links) roots ≡ Some r)
refused-first nodes lent contents links roots None same k h = h
refused-first nodes lent contents links roots (Some r) same k h = subst (λ (ns : List Node). first_refusal (tree_of ns contents links) roots ≡ Some r) same (k.passes ∙ h)

found-order : (nodes lent : List Node) (contents : List (ℕ × ℕ)) (links : LinkLists) (roots order : List ℕ) (vs items : List Visit) → lent ≡ nodes → order ≡ flat vs → vs ≡ items
    → flat items ≡ flat (leaves (tree_of lent contents links) (unfolding_of (tree_of lent contents links) roots)) → order ≡ flat (leaves (tree_of nodes contents links) (unfolding_of (tree_of nodes contents links) roots))
found-order nodes lent contents links roots order vs items same is lent-is found =
    is ∙ ap flat lent-is ∙ found ∙ ap (λ (ns : List Node). flat (leaves (tree_of ns contents links) (unfolding_of (tree_of ns contents links) roots))) same

pub walk_from-requires-clause-tree : goal.walk_from-requires-clause-tree
walk_from-requires-clause-tree c =
    (called c.args.arena.now c.nodes.result.now c.args.contents.now c.args.links.now c.args.roots.now c.len.result c.nodes.ensures.nodes c.nodes.ensures.older c.requires c.len.ensures c.in_default.ensures).tree

pub walk_from-requires-clause-roots : goal.walk_from-requires-clause-roots
walk_from-requires-clause-roots c =
    (called c.args.arena.now c.nodes.result.now c.args.contents.now c.args.links.now c.args.roots.now c.len.result c.nodes.ensures.nodes c.nodes.ensures.older c.requires c.len.ensures c.in_default.ensures).roots_known

pub returns-in_err-leaves-clause-refuses : goal.returns-in_err-leaves-clause-refuses
returns-in_err-leaves-clause-refuses c =
    let p = err_from_is_err_and c.from_residual.result c.from_residual.ensures.1 in
    rw (p.1, p.2)
    (refused-first c.args.arena.now c.nodes.result.now c.args.contents.now c.args.links.now c.args.roots.now (refusal_of c.in_err-leaves.field-0.0) c.nodes.ensures.nodes
    (called c.args.arena.now c.nodes.result.now c.args.contents.now c.args.links.now c.args.roots.now c.len.result c.nodes.ensures.nodes c.nodes.ensures.older c.requires c.len.ensures c.in_default.ensures)
    c.in_err-leaves.ensures.refuses)

pub returns-clause-order : goal.returns-clause-order
returns-clause-order c =
    found-order c.args.arena.now c.nodes.result.now c.args.contents.now c.args.links.now c.args.roots.now c.in_ok-order.order.items c.deref.result.now c.in_ok-leaves.field-0.leaves.items c.nodes.ensures.nodes
    c.in_ok-order.ensures c.deref.ensures.value c.in_ok-leaves.ensures.leaves
    ∙ flat-sorted (leaves (tree_of c.args.arena.now c.args.contents.now c.args.links.now) (unfolding_of (tree_of c.args.arena.now c.args.contents.now c.args.links.now) c.args.roots.now))

pub returns-clause-unfolds : goal.returns-clause-unfolds
returns-clause-unfolds c =
    subst (λ (ns : List Node). UnfoldsOnce (tree_of ns c.args.contents.now c.args.links.now)) c.nodes.ensures.nodes
    (unfold_once (tree_of c.nodes.result.now c.args.contents.now c.args.links.now)
    (called c.args.arena.now c.nodes.result.now c.args.contents.now c.args.links.now c.args.roots.now c.len.result c.nodes.ensures.nodes c.nodes.ensures.older c.requires c.len.ensures c.in_default.ensures).tree)

pub returns-clause-known : goal.returns-clause-known
returns-clause-known c =
    let ids : List ℕ = c.args.roots.now ++ content_nodes c.args.contents.now in
    all-known (length c.args.arena.now) ids (sym (subst (λ (n : ℕ). None ≡ least_unknown n ids) c.len.ensures c.in_default.ensures))
