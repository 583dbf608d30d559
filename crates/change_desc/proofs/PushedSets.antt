-- A set of changes with one more section.
use Rattle.std.proofs.Common.{◌≡◌, ℕ, ◌+◌, ◌<◌, ◌^◌, List, [], ◌∷◌, ◌++◌, ap, arith}
use Rattle.change_desc.specs.declared.section.Section.{Section}
use Rattle.change_desc.specs.Sections.{counted, normal, old_of, old_size, new_of, new_size, IsSet}
use Rattle.change_desc.proofs.Normal.{counted_laws, normal-normal}
use Rattle.change_desc.proofs.Merges.{old_size-normal}
use Rattle.change_desc.proofs.Weaves.{new_size-normal}

old_size-last : (s : List (Section ℕ)) (x : Section ℕ) → old_size (s ++ x ∷ []) ≡ old_size s + old_of x
old_size-last [] x = omega arith
old_size-last (y ∷ s) x = omega (arith, old_size-last s x)

new_size-last : (s : List (Section ℕ)) (x : Section ℕ) → new_size counted (s ++ x ∷ []) ≡ new_size counted s + new_of counted x
new_size-last [] x = omega arith
new_size-last (y ∷ s) x = omega (arith, new_size-last s x)

pub is_set-pushed : (s t : List (Section ℕ)) (x : Section ℕ) → old_size s + old_of x < 2 ^ 32 → new_size counted s + new_of counted x < 2 ^ 32 →
    t ≡ normal counted (s ++ x ∷ []) → IsSet counted t
is_set-pushed s t x o n e =
    let u = s ++ x ∷ [] in
    record {
      is_normal = rw e (normal-normal counted counted_laws u);
      old_fits = omega (arith, ap old_size e, old_size-normal counted u, old_size-last s x, o);
      new_fits = omega (arith, ap (new_size counted) e, new_size-normal counted counted_laws u, new_size-last s x, n);
    }
