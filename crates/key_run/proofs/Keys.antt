-- Keys up to the first Quit, and the times at which they are pressed.
use Rattle.std.proofs.Common.{◌≡◌, ℕ, suc, ◌+◌, pos, Bool, true, false, cond, not, ◌||◌, List, [], ◌∷◌, ◌++◌, length, take, take_while, Option, Some, None, IfSome, refl, ap, ◌∙◌, arith}
use Rattle.std.specs.List.{list_any, prefix_len}
use Rattle.cm_outside.specs.Times.{Times}
use Rattle.term_keys.specs.declared.key.Key.{Key}
use Rattle.key_run.specs.Typing.{Event, pressed, presses, is_quit}
use Rattle.key_run.specs.Run.{IsReadTimes}

or_false : (b c : Bool) → (b || c) ≡ false → (b ≡ false) × (c ≡ false)
or_false true c e = absurd (let f : ⊥ = cc e in f)
or_false false c e = (refl, e)

or_true : (b c : Bool) → c ≡ true → (b || c) ≡ true
or_true true c e = refl
or_true false c e = e

goes_on : (k : Key) (ks : List Key) → is_quit k ≡ false → take_while (λ key. not (is_quit key)) (k ∷ ks) ≡ k ∷ take_while (λ key. not (is_quit key)) ks
goes_on k ks other =
    let n = prefix_len (λ key. not (is_quit key)) ks in
    ap (λ b. take (cond (not b) (1 + n) 0) (k ∷ ks)) other ∙ ap (λ i. take i (k ∷ ks)) (let e : 1 + n ≡ suc n = omega arith in e)

-- with no Quit, these are all keys
pub all_typed : (ks : List Key) → list_any is_quit ks ≡ false → take_while (λ key. not (is_quit key)) ks ≡ ks
all_typed [] none = refl
all_typed (k ∷ ks) none = let h = or_false (is_quit k) (list_any is_quit ks) none in goes_on k ks h.0 ∙ ap (λ l. k ∷ l) (all_typed ks h.1)

-- those before the first Quit
pub typed_to_quit : (ks : List Key) (k : Key) (more : List Key) → list_any is_quit ks ≡ false → is_quit k ≡ true → take_while (λ key. not (is_quit key)) (ks ++ k ∷ more) ≡ ks
typed_to_quit [] k more none quit = ap (λ b. take (cond (not b) (1 + prefix_len (λ key. not (is_quit key)) more) 0) (k ∷ more)) quit
typed_to_quit (x ∷ ks) k more none quit =
    let h = or_false (is_quit x) (list_any is_quit ks) none in goes_on x (ks ++ k ∷ more) h.0 ∙ ap (λ l. x ∷ l) (typed_to_quit ks k more h.1 quit)

-- a key that isn't Quit is one of them
pub typed_past : (ks : List Key) (k : Key) (more : List Key) → list_any is_quit ks ≡ false → is_quit k ≡ false
    → take_while (λ key. not (is_quit key)) (ks ++ k ∷ more) ≡ ks ++ k ∷ take_while (λ key. not (is_quit key)) more
typed_past [] k more none other = goes_on k more other
typed_past (x ∷ ks) k more none other =
    let h = or_false (is_quit x) (list_any is_quit ks) none in goes_on x (ks ++ k ∷ more) h.0 ∙ ap (λ l. x ∷ l) (typed_past ks k more h.1 other)

-- Quit is among keys with a Quit, and not among those without
pub some_quit : (ks : List Key) (k : Key) (more : List Key) → is_quit k ≡ true → list_any is_quit (ks ++ k ∷ more) ≡ true
some_quit [] k more quit = ap (λ b. b || list_any is_quit more) quit
some_quit (x ∷ ks) k more quit = or_true (is_quit x) (list_any is_quit (ks ++ k ∷ more)) (some_quit ks k more quit)

pub no_quit : (ks : List Key) (k : Key) → list_any is_quit ks ≡ false → is_quit k ≡ false → list_any is_quit (ks ++ k ∷ []) ≡ false
no_quit [] k none other = ap (λ b. b || false) other
no_quit (x ∷ ks) k none other =
    let h = or_false (is_quit x) (list_any is_quit ks) none in ap (λ b. b || list_any is_quit (ks ++ k ∷ [])) h.0 ∙ no_quit ks k h.1 other

-- one key more at its time
pub presses_more : (times : Times) (ks : List Key) (k : Key) → presses times (ks ++ k ∷ []) ≡ presses times ks ++ pressed k (pos (times (length ks))) ∷ []
presses_more times [] k = refl
presses_more times (x ∷ ks) k =
    let same : length ks + 1 ≡ length (x ∷ ks) = omega arith in
    ap (λ l. pressed x (pos (times 0)) ∷ l) (presses_more (λ n. times (n + 1)) ks k ∙ ap (λ n. presses (λ i. times (i + 1)) ks ++ pressed k (pos (times n)) ∷ []) same)

-- the events of some first keys, the one after them, and those after it
pub presses_next : (times : Times) (ks : List Key) (k : Key) (more : List Key) → (others : List Event) × (presses times (ks ++ k ∷ more) ≡ presses times ks ++ pressed k (pos (times (length ks))) ∷ others)
presses_next times [] k more = (presses (λ n. times (n + 1)) more, refl)
presses_next times (x ∷ ks) k more =
    let next = presses_next (λ n. times (n + 1)) ks k more in
    let same : length ks + 1 ≡ length (x ∷ ks) = omega arith in
    (next.0, ap (λ l. pressed x (pos (times 0)) ∷ l) (next.1 ∙ ap (λ n. presses (λ i. times (i + 1)) ks ++ pressed k (pos (times n)) ∷ next.0) same))

-- a clock that was read once more
pub read_more : (count : ℕ) (times : Times) (now new : Option Times) → IsReadTimes count times now → IfSome now (λ t. IsReadTimes 1 t new) → IsReadTimes (count + 1) times new
read_more count times None new h k = absurd h
read_more count times (Some later) None h k = absurd k
read_more count times (Some later) (Some last) h k = λ n. k n ∙ h (1 + n) ∙ ap times (let e : count + (1 + n) ≡ (count + 1) + n = omega arith in e)
