-- What leaves are followed by, where lists of links change.
use Rattle.std.proofs.Common.{◌≡◌, ℕ, zero, suc, ◌<◌, List, [], ◌∷◌, ◌++◌, Bool, true, false, Option, Some, None, length, get_or, slice_get, set, refl, sym, ap, subst}
use Rattle.std.proofs.lemmas.Option.{slice_get_within}
use Rattle.std.proofs.lemmas.List.{get_or_append_left, get_or-set_other}
use Rattle.configuration.specs.declared.facet_def.FacetDef.{FacetDef}
use Rattle.configuration.specs.declared.node_def.NodeDef.{NodeDef}
use Rattle.ext_tree.specs.declared.node.Node.{Node}
use Rattle.ext_tree.specs.declared.node.Node.TheVariants as nodes
use Rattle.ext_tree.specs.Links.{LinkLists}
use Rattle.ext_tree.specs.Tree.{linked}
use Rattle.configuration.specs.Present.{field_in}
use Rattle.values.specs.declared.val.Val.{Val}
use Rattle.values.specs.Rules.{Rules}
use Rattle.values.specs.Declarations.{Declarations}
use Rattle.values.specs.Lawful.{IsDefined, IsInput}
use Rattle.registry.proofs.Lists.{get_or-default}

-- each list of links, where one is added
pub listed-pushed : (P : List ℕ → Type 0) (xs : List (List ℕ)) (x : List ℕ) → P [] → ((i : ℕ) → P (get_or xs i [])) → P x → (i : ℕ) → P (get_or (xs ++ x ∷ []) i [])
listed-pushed P [] x n h p zero = p
listed-pushed P [] x n h p (suc i) = n
listed-pushed P (z ∷ zs) x n h p zero = h zero
listed-pushed P (z ∷ zs) x n h p (suc i) = listed-pushed P zs x n (λ j. h (suc j)) p i

-- each list of links, where one is replaced
pub listed-set : (P : List ℕ → Type 0) (xs : List (List ℕ)) (at : ℕ) (x : List ℕ) → ((i : ℕ) → P (get_or xs i [])) → P x → (i : ℕ) → P (get_or (set xs at x) i [])
listed-set P [] at x h p i = h i
listed-set P (z ∷ zs) zero x h p zero = p
listed-set P (z ∷ zs) zero x h p (suc i) = h (suc i)
listed-set P (z ∷ zs) (suc at) x h p zero = h zero
listed-set P (z ∷ zs) (suc at) x h p (suc i) = listed-set P zs at x (λ j. h (suc j)) p i

-- a mark that is set stays so where one is set
pub mark-kept : (xs : List Bool) (at i : ℕ) → get_or xs i false ≡ true → get_or (set xs at true) i false ≡ true
mark-kept [] at i e = e
mark-kept (x ∷ xs) zero zero e = refl
mark-kept (x ∷ xs) zero (suc i) e = e
mark-kept (x ∷ xs) (suc at) zero e = e
mark-kept (x ∷ xs) (suc at) (suc i) e = mark-kept xs at i e

-- each place of nodes, and past their end, where one is added
pub node-pushed : (P : Option Node → Type 0) (ns : List Node) (n : Node) → ((i : ℕ) → P (slice_get ns i)) → P (Some n) → P None → (i : ℕ) → P (slice_get (ns ++ n ∷ []) i)
node-pushed P [] n h p q zero = p
node-pushed P [] n h p q (suc i) = q
node-pushed P (m ∷ ms) n h p q zero = h zero
node-pushed P (m ∷ ms) n h p q (suc i) = node-pushed P ms n (λ j. h (suc j)) p q i

input-known : (rules : Rules) (d : Declarations) (facet : ℕ) (o : Option FacetDef) (def : NodeDef Val) → slice_get d.facets facet ≡ o → IsInput rules d o def → facet < length d.facets
input-known rules d facet None def e h = absurd h
input-known rules d facet (Some x) def e h = slice_get_within d.facets facet x e

-- an input that has its definition is of a facet that is declared
pub facet-known : (rules : Rules) (d : Declarations) (facet : ℕ) (def : Option (NodeDef Val)) → IsDefined rules d (nodes.Input facet) def → facet < length d.facets
facet-known rules d facet None h = absurd h
facet-known rules d facet (Some def) h = input-known rules d facet (slice_get d.facets facet) def refl h

-- where a facet is added, an input of a facet before it is followed by what it was
pub enabled-kept : (links : LinkLists) (x : List ℕ) (P : List ℕ → Type 0) (o : Option Node) → ((facet : ℕ) → o ≡ Some (nodes.Input facet) → facet < length links.enabled) → P (linked links o) → P (linked (record links { enabled = links.enabled ++ x ∷ [] }) o)
enabled-kept links x P (Some (nodes.Input facet)) k h = subst P (sym (get_or_append_left links.enabled (x ∷ []) [] facet (k facet refl))) h
enabled-kept links x P o k h = h

-- where a field is added, each leaf is followed by what it was
pub provided-kept : (links : LinkLists) (P : List ℕ → Type 0) (o : Option Node) → P (linked links o) → P (linked (record links { provided = links.provided ++ [] ∷ [] }) o)
provided-kept links P (Some (nodes.Field field)) h = subst P (sym (get_or-default links.provided [] field)) h
provided-kept links P (Some (nodes.Init field)) h = subst P (sym (get_or-default links.provided [] field)) h
provided-kept links P o h = h

-- where a field's list is replaced, a leaf of another field is followed by what it was
pub provided-set : (links : LinkLists) (field : ℕ) (x : List ℕ) (P : List ℕ → Type 0) (o : Option Node) → (field_in o ≡ Some field → ⊥) → P (linked links o) → P (linked (record links { provided = set links.provided field x }) o)
provided-set links field x P (Some (nodes.Field other)) k h = subst P (sym (get_or-set_other links.provided field other x [] (λ e. k (ap (λ f. Some f) e)))) h
provided-set links field x P (Some (nodes.Init other)) k h = subst P (sym (get_or-set_other links.provided field other x [] (λ e. k (ap (λ f. Some f) e)))) h
provided-set links field x P o k h = h
