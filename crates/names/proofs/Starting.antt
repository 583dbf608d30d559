-- The names at the start stand for what is predeclared, all of which has a name.
use Rattle.std.proofs.Common.{◌≡◌, ℕ, zero, suc, ◌<◌, [], ◌∷◌, Bool, true, false, Option, Some, slice_get, refl, sym, ap, arith, true≢false}
use Rattle.ext_tree.specs.declared.node.Node.{Node as Extension}
use Rattle.ext_tree.specs.declared.node.Node.TheVariants as nodes
use Rattle.names.specs.Known.{AreKnown, HasName, IsKept}
use Rattle.names.specs.Predeclared.{predeclared_names}
use Rattle.registry.specs.declared.id_sort.IdSort.TheVariants as sorts
use Rattle.registry.specs.Predeclared.{predeclared}

known : AreKnown predeclared_names predeclared
known = (tt, (tt, (omega arith, (omega arith, (omega arith, (omega arith, (omega arith, (omega arith, (omega arith, (omega arith, (omega arith, (omega arith, (omega arith, ((omega arith, omega arith), tt))))))))))))))

facets : (id : ℕ) → id < 10 → HasName predeclared_names sorts.Facet id
facets zero h = refl
facets (suc zero) h = refl
facets (suc (suc zero)) h = refl
facets (suc (suc (suc zero))) h = refl
facets (suc (suc (suc (suc zero)))) h = refl
facets (suc (suc (suc (suc (suc zero))))) h = refl
facets (suc (suc (suc (suc (suc (suc zero)))))) h = refl
facets (suc (suc (suc (suc (suc (suc (suc zero))))))) h = refl
facets (suc (suc (suc (suc (suc (suc (suc (suc zero)))))))) h = refl
facets (suc (suc (suc (suc (suc (suc (suc (suc (suc zero))))))))) h = refl
facets (suc (suc (suc (suc (suc (suc (suc (suc (suc (suc n)))))))))) h = absurd (omega (arith, h))

fields : (id : ℕ) → id < 1 → HasName predeclared_names sorts.Field id
fields zero h = refl
fields (suc n) h = absurd (omega (arith, h))

abbrev is_slot : Option Extension → Bool
is_slot (Some (nodes.Slot compartment content)) = true
is_slot _ = false

slots : (id compartment content : ℕ) → slice_get (nodes.Field 0 ∷ []) id ≡ Some (nodes.Slot compartment content) → HasName predeclared_names sorts.Node id
slots zero compartment content h = refl
slots (suc n) compartment content h = absurd (true≢false (sym (ap is_slot h)))

pub predeclared_kept : IsKept predeclared_names predeclared
predeclared_kept = record {
  are_known = known;
  are_named = record { facets = facets; fields = fields; compartments = λ id h. absurd (omega (arith, h)); slots = slots };
}
