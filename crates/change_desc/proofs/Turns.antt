-- The way back is a set too.
use Rattle.std.proofs.Common.{◌≡◌, ℕ, zero, suc, ◌+◌, false, List, [], ◌∷◌, map, refl, ap, ◌∙◌}
use Rattle.change_desc.specs.declared.section.Section.{Section}
use Rattle.change_desc.specs.declared.section.Section.TheVariants.{Keep, Replace}
use Rattle.change_desc.specs.declared.kind.Kind.{Kind}
use Rattle.change_desc.specs.declared.kind.Kind.TheVariants.{Keeps, Inserts, Deletes, Replaces}
use Rattle.change_desc.specs.Sections.{counted, is_blank, kind, joins, turned, old_size, new_size, IsSet}
use Rattle.change_desc.proofs.Normal.{counted_laws, InOrder, in_order, normal-in_order}

-- what a section does, the other way round
abbrev back : Kind → Kind
back Keeps = Keeps
back Inserts = Deletes
back Deletes = Inserts
back Replaces = Replaces

joins-back : (j k : Kind) → joins (back j) (back k) ≡ joins j k
joins-back Keeps Keeps = refl
joins-back Keeps Inserts = refl
joins-back Keeps Deletes = refl
joins-back Keeps Replaces = refl
joins-back Inserts Keeps = refl
joins-back Inserts Inserts = refl
joins-back Inserts Deletes = refl
joins-back Inserts Replaces = refl
joins-back Deletes Keeps = refl
joins-back Deletes Inserts = refl
joins-back Deletes Deletes = refl
joins-back Deletes Replaces = refl
joins-back Replaces Keeps = refl
joins-back Replaces Inserts = refl
joins-back Replaces Deletes = refl
joins-back Replaces Replaces = refl

kind-turned : (x : Section ℕ) → is_blank counted x ≡ false → (kind counted (turned x) ≡ back (kind counted x)) × (is_blank counted (turned x) ≡ false)
kind-turned (Keep n) h = (refl, h)
kind-turned (Replace zero zero) h = cc
kind-turned (Replace zero (suc t)) h = (refl, refl)
kind-turned (Replace (suc n) zero) h = (refl, refl)
kind-turned (Replace (suc n) (suc t)) h = (refl, refl)

in_order-turned : (s : List (Section ℕ)) → InOrder counted counted_laws s → InOrder counted counted_laws (map turned s)
in_order-turned [] o = tt
in_order-turned (x ∷ []) o = ((kind-turned x o.0).1, tt, tt)
in_order-turned (x ∷ y ∷ s) o =
    ((kind-turned x o.0).1, rw ((kind-turned x o.0).0, (kind-turned y o.2.0).0) (joins-back (kind counted x) (kind counted y) ∙ o.1), in_order-turned (y ∷ s) o.2)

pub old_size-turned : (s : List (Section ℕ)) → old_size (map turned s) ≡ new_size counted s
old_size-turned [] = refl
old_size-turned (Keep n ∷ s) = ap (λ m. n + m) (old_size-turned s)
old_size-turned (Replace n t ∷ s) = ap (λ m. t + m) (old_size-turned s)

pub new_size-turned : (s : List (Section ℕ)) → new_size counted (map turned s) ≡ old_size s
new_size-turned [] = refl
new_size-turned (Keep n ∷ s) = ap (λ m. n + m) (new_size-turned s)
new_size-turned (Replace n t ∷ s) = ap (λ m. n + m) (new_size-turned s)

pub is_set-turned : (s : List (Section ℕ)) → IsSet counted s → IsSet counted (map turned s)
is_set-turned s h = record {
  is_normal = normal-in_order counted counted_laws (map turned s) (in_order-turned s (in_order counted counted_laws s h.is_normal));
  old_fits = rw (old_size-turned s) h.new_fits;
  new_fits = rw (new_size-turned s) h.old_fits;
}
