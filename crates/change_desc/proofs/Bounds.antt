-- A mapped position lies in the new text.
use Rattle.std.proofs.Common.{◌≡◌, ℕ, zero, suc, ◌+◌, ◌≤◌, Bool, true, false, cond, List, [], ◌∷◌, ◌++◌, Option, Some, None, subst, arith}
use Rattle.std.specs.Prelude.{IfSome}
use Rattle.std.specs.List.{filter}
use Rattle.std.specs.Option.{option_or}
use Rattle.change_desc.specs.declared.section.Section.{Section}
use Rattle.change_desc.specs.declared.section.Section.TheVariants.{Keep, Replace}
use Rattle.change_desc.specs.declared.map_mode.MapMode.{MapMode}
use Rattle.change_desc.specs.Sections.{counted, new_size}
use Rattle.change_desc.specs.Positions.{Pair, shift, diagonal, cuts, first_new, last_new, at, before, after, moved, is_lost, map_pos}

-- all new places of these pairs are at most n
abbrev Below : ℕ → List Pair → Type 0
Below n [] = Unit {0}
Below n (c ∷ cs) = (c.1 ≤ n) × Below n cs

more : (n m : ℕ) (cs : List Pair) → n ≤ m → Below n cs → Below m cs
more n m [] l h = tt
more n m (c ∷ cs) l h = (omega (arith, l, h.0), more n m cs l h.1)

appended : (n : ℕ) (cs ds : List Pair) → Below n cs → Below n ds → Below n (cs ++ ds)
appended n [] ds h k = k
appended n (c ∷ cs) ds h k = (h.0, appended n cs ds h.1 k)

shifted : (n o m : ℕ) (cs : List Pair) → Below n cs → Below (m + n) (shift o m cs)
shifted n o m [] h = tt
shifted n o m (c ∷ cs) h = (omega (arith, h.0), shifted n o m cs h.1)

along : (n : ℕ) → Below n (diagonal n)
along zero = tt
along (suc n) = (omega arith, more (1 + n) (suc n) (shift 1 1 (diagonal n)) (omega arith) (shifted n 1 1 (diagonal n) (along n)))

all_cuts : (s : List (Section ℕ)) → Below (new_size counted s) (cuts counted s)
all_cuts [] = (omega arith, tt)
all_cuts (Keep n ∷ s) =
    appended (n + new_size counted s) (diagonal n) (shift n n (cuts counted s)) (more n (n + new_size counted s) (diagonal n) (omega arith) (along n))
    (shifted (new_size counted s) n n (cuts counted s) (all_cuts s))
all_cuts (Replace n t ∷ s) = (omega arith, shifted (new_size counted s) n t (cuts counted s) (all_cuts s))

filtered : (n : ℕ) (f : Pair → Bool) (cs : List Pair) → Below n cs → Below n (filter f cs)
filtered n f [] h = tt
filtered n f (c ∷ cs) h =
    elim (f c) as (λ b. Below n (cond b (c ∷ filter f cs) (filter f cs))) [ true ↦ (h.0, filtered n f cs h.1) | false ↦ filtered n f cs h.1 ]

or_within : (n : ℕ) (o p : Option ℕ) → IfSome o (λ q. q ≤ n) → IfSome p (λ q. q ≤ n) → IfSome (option_or o p) (λ q. q ≤ n)
or_within n (Some m) p h k = h
or_within n None p h k = k

first_within : (n : ℕ) (cs : List Pair) → Below n cs → IfSome (first_new cs) (λ q. q ≤ n)
first_within n [] h = tt
first_within n (c ∷ cs) h = h.0

last_within : (n : ℕ) (cs : List Pair) → Below n cs → IfSome (last_new cs) (λ q. q ≤ n)
last_within n [] h = tt
last_within n (c ∷ cs) h = or_within n (last_new cs) (Some c.1) (last_within n cs h.1) h.0

moved_within : (n : ℕ) (negative : Bool) (p : ℕ) (cs : List Pair) → Below n cs → IfSome (moved negative p cs) (λ q. q ≤ n)
moved_within n true p cs h =
    or_within n (first_new (at p cs)) (last_new (before p cs)) (first_within n (at p cs) (filtered n _ cs h)) (last_within n (before p cs) (filtered n _ cs h))
moved_within n false p cs h =
    or_within n (last_new (at p cs)) (first_new (after p cs)) (last_within n (at p cs) (filtered n _ cs h)) (first_within n (after p cs) (filtered n _ cs h))

pub map_pos-within : (s : List (Section ℕ)) (p : ℕ) (negative : Bool) (mode : MapMode) → IfSome (map_pos counted s p negative mode) (λ q. q ≤ new_size counted s)
map_pos-within s p negative mode =
    elim (is_lost counted mode p s) as (λ b. IfSome (cond b None (moved negative p (cuts counted s))) (λ q. q ≤ new_size counted s))
    [ true ↦ tt | false ↦ moved_within (new_size counted s) negative p (cuts counted s) (all_cuts s) ]

pub place-within : (s : List (Section ℕ)) (p : ℕ) (negative : Bool) (q : ℕ) → moved negative p (cuts counted s) ≡ Some q → q ≤ new_size counted s
place-within s p negative q e =
    let within : Option ℕ → Type 0 = λ o. IfSome o (λ r. r ≤ new_size counted s) in
    subst within e (moved_within (new_size counted s) negative p (cuts counted s) (all_cuts s))
