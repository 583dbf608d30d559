-- Lists that grow at the end.
use Rattle.std.proofs.Common.{◌≡◌, ℕ, zero, suc, ◌<◌, List, [], ◌∷◌, ◌++◌, Option, Some, length, get_or, slice_get, refl, subst, arith}
use Rattle.std.specs.List.{AllByRecursion}
use Rattle.std.proofs.lemmas.Option.{none-some, same_Some}

pub All-map : {X : Type 0} (P Q : X → Type 0) → ((x : X) → P x → Q x) → (xs : List X) → AllByRecursion P xs → AllByRecursion Q xs
All-map P Q f [] h = h
All-map P Q f (x ∷ xs) h = (f x h.0, All-map P Q f xs h.1)

pub get-kept : {X : Type 0} (xs ys : List X) (i : ℕ) (x : X) → slice_get xs i ≡ Some x → slice_get (xs ++ ys) i ≡ Some x
get-kept [] ys i x e = absurd (none-some x e)
get-kept (z ∷ zs) ys zero x e = e
get-kept (z ∷ zs) ys (suc i) x e = get-kept zs ys i x e

-- each entry of a list that has grown
pub all-pushed : {X : Type 0} (P : X → Type 0) (xs : List X) (x : X) → ((i : ℕ) (y : X) → slice_get xs i ≡ Some y → P y) → P x → (i : ℕ) (y : X) → slice_get (xs ++ x ∷ []) i ≡ Some y → P y
all-pushed P [] x h p zero y e = subst P (same_Some x y e) p
all-pushed P [] x h p (suc i) y e = absurd (none-some y e)
all-pushed P (z ∷ zs) x h p zero y e = h zero y e
all-pushed P (z ∷ zs) x h p (suc i) y e = all-pushed P zs x (λ j w k. h (suc j) w k) p i y e

-- each place of a list that has grown
pub at-pushed : {X : Type 0} (P : ℕ → Option X → Type 0) (xs : List X) (x : X) → ((n : ℕ) → n < length xs → P n (slice_get xs n)) → P (length xs) (Some x) → (n : ℕ) → n < length (xs ++ x ∷ []) → P n (slice_get (xs ++ x ∷ []) n)
at-pushed P [] x h p zero l = p
at-pushed P [] x h p (suc n) l = absurd (omega (arith, l))
at-pushed P (z ∷ zs) x h p zero l = h zero (omega arith)
at-pushed P (z ∷ zs) x h p (suc n) l = at-pushed (λ m o. P (suc m) o) zs x (λ m k. h (suc m) (omega (arith, k))) p n (omega (arith, l))

-- each entry with what stands at its place in a second list
pub both-pushed : {X Y : Type 0} (R : X → Option Y → Type 0) (xs : List X) (ys : List Y) (x : X) (y : Y) → length ys ≡ length xs → ((i : ℕ) (z : X) → slice_get xs i ≡ Some z → R z (slice_get ys i)) → R x (Some y) → (i : ℕ) (z : X) → slice_get (xs ++ x ∷ []) i ≡ Some z → R z (slice_get (ys ++ y ∷ []) i)
both-pushed R [] [] x y e h r zero z q = subst (λ w. R w (Some y)) (same_Some x z q) r
both-pushed R [] [] x y e h r (suc i) z q = absurd (none-some z q)
both-pushed R [] (v ∷ vs) x y e h r i z q = absurd (omega (arith, e))
both-pushed R (w ∷ ws) [] x y e h r i z q = absurd (omega (arith, e))
both-pushed R (w ∷ ws) (v ∷ vs) x y e h r zero z q = h zero z q
both-pushed R (w ∷ ws) (v ∷ vs) x y e h r (suc i) z q = both-pushed R ws vs x y (omega (arith, e)) (λ j u k. h (suc j) u k) r i z q

-- what a list gives past its end may be put at its end
pub get_or-default : {X : Type 0} (xs : List X) (d : X) (i : ℕ) → get_or (xs ++ d ∷ []) i d ≡ get_or xs i d
get_or-default [] d zero = refl
get_or-default [] d (suc i) = refl
get_or-default (x ∷ xs) d zero = refl
get_or-default (x ∷ xs) d (suc i) = get_or-default xs d i
