use Rattle.std.proofs.Common.{◌≡◌, ◌⊎◌, ℕ, List, Bool, true, false, Some, ap, ⊎_elim, inl, inr}
use Rattle.ext_tree.specs.declared.precedence.Precedence.{Precedence}
use Rattle.ext_tree.specs.declared.precedence.Precedence.TheVariants as precedence
use Rattle.ext_tree.specs.declared.visit.Visit.{Visit}
use Rattle.ext_tree.specs.declared.shared_list.SharedList.{SharedList}
use Rattle.ext_tree.specs.declared.shared_list.SharedList.TheVariants.{Enabled, Provided}
use Rattle.ext_tree.specs.Memo.{is_walked}
use Rattle.ext_tree.specs.Shared.{is_list_walked}

-- no list is marked where nothing is
pub unmarked : (facets fields : List Bool) → ((v : Visit) → is_walked facets v ≡ false) → ((v : Visit) → is_walked fields v ≡ false) → (x : SharedList) → is_list_walked facets fields x ≡ false
unmarked facets fields h k (Enabled facet) = h (record { node = facet; precedence = precedence.Default })
unmarked facets fields h k (Provided field p) = k (record { node = field; precedence = p })

pub mark-enabled : (facets facets' fields : List Bool) (f : ℕ) → ((w : Visit) → is_walked facets' w ≡ true → (w ≡ record { node = f; precedence = precedence.Default }) ⊎ (is_walked facets w ≡ true))
    → (x : SharedList) → is_list_walked facets' fields x ≡ true → (Some x ≡ Some (Enabled f)) ⊎ (is_list_walked facets fields x ≡ true)
mark-enabled facets facets' fields f h (Enabled g) e =
    ⊎_elim (λ d. inl (ap (λ (w : Visit). Some (Enabled w.node)) d)) (λ d. inr d) (h (record { node = g; precedence = precedence.Default }) e)
mark-enabled facets facets' fields f h (Provided g p) e = inr e

pub mark-provided : (facets fields fields' : List Bool) (f : ℕ) (q : Precedence) → ((w : Visit) → is_walked fields' w ≡ true → (w ≡ record { node = f; precedence = q }) ⊎ (is_walked fields w ≡ true))
    → (x : SharedList) → is_list_walked facets fields' x ≡ true → (Some x ≡ Some (Provided f q)) ⊎ (is_list_walked facets fields x ≡ true)
mark-provided facets fields fields' f q h (Enabled g) e = inr e
mark-provided facets fields fields' f q h (Provided g p) e =
    ⊎_elim (λ d. inl (ap (λ (w : Visit). Some (Provided w.node w.precedence)) d)) (λ d. inr d) (h (record { node = g; precedence = p }) e)
