use Rattle.std.proofs.Common.{◌≡◌, ◌<◌, ◌≤◌, ◌+◌, ◌*◌, ℕ, zero, suc, List, [], ◌∷◌, ◌++◌, Bool, true, false, not, ◌&&◌, cond, Option, None, Some, is_some, length, slice_get, map, flat_map, refl, ap, subst, ⊎_elim, arith, eq-eqb}
use Rattle.std.proofs.lemmas.Bool.{cases_Bool, cases_eq}
use Rattle.std.proofs.lemmas.List.Folds.{list_any-append}
use Rattle.std.proofs.Math.Nat.{mul-le-mul_left}
use Rattle.std.specs.Option.{unwrap_or}
use Rattle.compartments.specs.Contents.{content_of}
use Rattle.std.specs.List.{AllByRecursion}
use Rattle.ext_tree.specs.declared.node.Node.{Node}
use Rattle.ext_tree.specs.declared.node.Node.TheVariants.{Group, Prec, Slot, Input, Field, Init}
use Rattle.ext_tree.specs.Tree.{Tree, IsOlder, IsTree, named, linked}
use Rattle.ext_tree.specs.Unfolding.{Occurrence, compartment_in, compartment_of, is_slot_of, stands_on, is_blocked, following_in, following, below, followed_by, unfolded, depth_of, unfold_at}

pub weaker : {X : Type 0} (P Q : X → Type 0) → ((x : X) → P x → Q x) → (xs : List X) → AllByRecursion P xs → AllByRecursion Q xs
weaker P Q t [] h = h
weaker P Q t (x ∷ xs) h = (t x h.0, weaker P Q t xs h.1)

pub all-map : {X Y : Type 0} (f : X → Y) (P : Y → Type 0) (xs : List X) → AllByRecursion (λ x. P (f x)) xs → AllByRecursion P (map f xs)
all-map f P [] h = h
all-map f P (x ∷ xs) h = (h.0, all-map f P xs h.1)

flat-same : {X Y : Type 0} (f g : X → List Y) (xs : List X) → AllByRecursion (λ x. f x ≡ g x) xs → flat_map f xs ≡ flat_map g xs
flat-same f g [] h = refl
flat-same f g (x ∷ xs) h = let e = flat-same f g xs h.1 in let d = h.0 in cc

-- a slot whose compartment does not stand on the path
abbrev pub is_open : Tree → List ℕ → ℕ → Bool
is_open t path n = is_some (compartment_of t n) && not (stands_on t path (compartment_of t n))

-- how many of the nodes below n are such slots
abbrev pub open_to : Tree → List ℕ → ℕ → ℕ
open_to t path zero = 0
open_to t path (suc n) = cond (is_open t path n) 1 0 + open_to t path n

open-within : (t : Tree) (path : List ℕ) (n : ℕ) → open_to t path n ≤ n
open-within t path zero = omega arith
open-within t path (suc n) = let h = open-within t path n in ⊎_elim (λ e. rw e (omega (arith, h))) (λ e. rw e (omega (arith, h))) (cases_Bool (is_open t path n))

stands-more : (t : Tree) (path : List ℕ) (s : ℕ) (c : Option ℕ) → stands_on t path c ≡ true → stands_on t (path ++ s ∷ []) c ≡ true
stands-more t path s None h = h
stands-more t path s (Some c) h = rw (list_any-append (is_slot_of t c) path (s ∷ [])) (rw h refl)

open-one : (t : Tree) (path : List ℕ) (s n : ℕ) → cond (is_open t (path ++ s ∷ []) n) 1 0 ≤ cond (is_open t path n) 1 0
open-one t path s n =
    ⊎_elim
    (λ e. let m = stands-more t path s (compartment_of t n) e in rw (m, e) (grind arith))
    (λ e. rw e (grind arith))
    (cases_Bool (stands_on t path (compartment_of t n)))

open-less : (t : Tree) (path : List ℕ) (s n : ℕ) → open_to t (path ++ s ∷ []) n ≤ open_to t path n
open-less t path s zero = omega arith
open-less t path s (suc n) = let h = open-less t path s n in let k = open-one t path s n in omega (arith, h, k)

stands-here : (t : Tree) (path : List ℕ) (s : ℕ) (c : ℕ) → compartment_of t s ≡ Some c → stands_on t (path ++ s ∷ []) (Some c) ≡ true
stands-here t path s c h = rw (list_any-append (is_slot_of t c) path (s ∷ [])) (rw h (grind (arith, eq-eqb)))

-- a slot that is followed is open no more
open-fewer : (t : Tree) (path : List ℕ) (s c n : ℕ) → compartment_of t s ≡ Some c → stands_on t path (Some c) ≡ false → s < n → open_to t (path ++ s ∷ []) n + 1 ≤ open_to t path n
open-fewer t path s c zero h out lt = absurd (omega arith)
open-fewer t path s c (suc n) h out lt =
    ⊎_elim
    (λ e. let d : compartment_of t n ≡ Some c = subst (λ (m : ℕ). compartment_of t m ≡ Some c) e h in
    let st = stands-here t path s c h in
    let less = open-less t path s n in
    rw (d, st, out) (omega (arith, less)))
    (λ ne. let le : s < n = omega (arith, ne, lt) in let ih = open-fewer t path s c n h out le in let k = open-one t path s n in omega (arith, ih, k))
    (cases_eq s n)

-- a walk at a node and a path can go no deeper than this
abbrev pub rank : Tree → List ℕ → ℕ → ℕ
rank t path n = open_to t path (length t.nodes) * length t.nodes + n

pub rank-within : (t : Tree) (path : List ℕ) (n : ℕ) → n < length t.nodes → rank t path n < depth_of t
rank-within t path n lt = let h = mul-le-mul_left (length t.nodes) (open-within t path (length t.nodes)) in omega (arith, h, lt)

fewer-times : (a b s n m : ℕ) → a + 1 ≤ b → m < s → a * s + m < b * s + n
fewer-times a b s n m h lt = let k = mul-le-mul_left s h in omega (arith, k, lt)

-- what a node is followed by, and its path
abbrev pub path_in : ℕ → List ℕ → Option Node → List ℕ
path_in n path k = cond (is_some (compartment_in k)) (path ++ n ∷ []) path

abbrev pub IsLower : Tree → ℕ → List ℕ → List ℕ → ℕ → Type 0
IsLower t n path under m = (m < length t.nodes) × (rank t under m < rank t path n)

module _ (t : Tree) (tree : IsTree t) where
  older-lower : (n : ℕ) (path : List ℕ) → n < length t.nodes → (ms : List ℕ) → AllByRecursion (IsOlder n) ms → AllByRecursion (IsLower t n path path) ms
  older-lower n path within ms h = weaker (IsOlder n) (IsLower t n path path) (λ m lt. (omega (arith, lt, within), omega (arith, lt))) ms h

  content-within : (n c own : ℕ) (o : Option ℕ) → content_of t.contents c ≡ o → own < n → n < length t.nodes → unwrap_or o own < length t.nodes
  content-within n c own None e lt within = omega (arith, lt, within)
  content-within n c own (Some m) e lt within = tree.contents c m e

  lower-in : (n : ℕ) (path : List ℕ) (k : Option Node) → slice_get t.nodes n ≡ k → n < length t.nodes → AllByRecursion (IsOlder n) (named k) → AllByRecursion (IsOlder n) (linked t.links k) → stands_on t path (compartment_in k) ≡ false
      → AllByRecursion (IsLower t n path (path_in n path k)) (following_in t k)
  lower-in n path None e within h l out = tt
  lower-in n path (Some (Group nodes)) e within h l out = older-lower n path within nodes h
  lower-in n path (Some (Prec p node)) e within h l out = older-lower n path within (node ∷ []) h
  lower-in n path (Some (Slot c own)) e within h l out =
      let m = unwrap_or (content_of t.contents c) own in
      let inside : m < length t.nodes = content-within n c own (content_of t.contents c) refl h.0 within in
      let d : compartment_of t n ≡ Some c = ap compartment_in e in
      ((inside, fewer-times _ _ (length t.nodes) n m (open-fewer t path n c (length t.nodes) d out within) inside), tt)
  lower-in n path (Some (Input f)) e within h l out = older-lower n path within (linked t.links (Some (Input f))) l
  lower-in n path (Some (Field f)) e within h l out = older-lower n path within (linked t.links (Some (Field f))) l
  lower-in n path (Some (Init f)) e within h l out = older-lower n path within (linked t.links (Some (Init f))) l

  -- what an occurrence is followed by stands in the tree, at a lower rank
  pub lower : (o : Occurrence) → o.node < length t.nodes → AllByRecursion (λ c. IsLower t o.node o.path c.path c.node) (followed_by t o)
  lower o within =
      ⊎_elim (λ e. rw e tt)
      (λ e. rw e (all-map (below t o) (λ c. IsLower t o.node o.path c.path c.node) (following t o.node)
      (lower-in o.node o.path (slice_get t.nodes o.node) refl within (tree.nodes o.node within) (tree.links o.node within) e)))
      (cases_Bool (is_blocked t o.node o.path))

  -- any two depths past the rank give the same
  enough : (k m : ℕ) (o : Occurrence) → o.node < length t.nodes → rank t o.path o.node < k → rank t o.path o.node < m → unfolded t k o ≡ unfolded t m o
  enough zero m o within a b = absurd (omega (arith, a))
  enough (suc k) zero o within a b = absurd (omega (arith, b))
  enough (suc k) (suc m) o within a b =
      ap (λ (os : List Occurrence). o ∷ os)
      (flat-same (unfolded t k) (unfolded t m) (followed_by t o)
      (weaker (λ c. IsLower t o.node o.path c.path c.node) (λ c. unfolded t k c ≡ unfolded t m c)
      (λ c low. enough k m c low.0 (omega (arith, low.1, a)) (omega (arith, low.1, b))) (followed_by t o) (lower o within)))

  -- the unfolding at an occurrence is the occurrence, and the unfolding at each that it is followed by
  pub unfold_once : (o : Occurrence) → o.node < length t.nodes → unfold_at t o ≡ o ∷ flat_map (unfold_at t) (followed_by t o)
  unfold_once o within =
      let r = rank-within t o.path o.node within in
      enough (depth_of t) (suc (depth_of t)) o within r (omega (arith, r))
