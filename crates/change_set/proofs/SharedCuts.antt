-- Each cut of two composed sets goes through a place where both have a cut.
use Rattle.std.proofs.Common.{◌≡◌, ℕ, zero, suc, ◌+◌, ◌≤◌, ◌<◌, ◌⊎◌, inl, inr, Bool, true, false, List, [], ◌∷◌, ◌++◌, length, refl, sym, subst, ap, ◌∙◌, arith, length-append}
use Rattle.std.specs.Prelude.{slice_index_or}
use Rattle.std.specs.List.{Contains}
use Rattle.change_desc.specs.declared.section.Section.{Section}
use Rattle.change_desc.specs.declared.section.Section.TheVariants.{Keep, Replace}
use Rattle.change_desc.specs.Sections.{Sections, spelled, counted, put, normal, old_size, new_size}
use Rattle.change_desc.specs.Positions.{Pair, shift, diagonal, cuts}
use Rattle.change_desc.specs.Columns.{width, Row, last, next, Fate, stays, leaves, follows, Origin, old, new, more, in_front, times, mores, along_old, along_new}
use Rattle.change_desc.specs.Pieces.{single, stretch, Open, closed, add, gather}
use Rattle.change_desc.specs.Compose.{is_cut_new, is_cut_old, count_of, composed, compose}
use Rattle.change_desc.specs.Laws.{CutsAreShared}
use Rattle.change_desc.proofs.Applies.{width-along_old, width-along_new}

abbrev Chars : Type 0
Chars = List ℕ

abbrev NewRow : Type 0
NewRow = Row ℕ (Origin ℕ)

abbrev OldRow : Type 0
OldRow = Row Chars (Fate Chars)

never : {A : Type 0} → false ≡ true → A
never h = cc

same_pair : (R : ℕ → ℕ → Type 0) (o n p m : ℕ) → o ≡ p → n ≡ m → R o n → R p m
same_pair R o n p m e f h = subst (λ k. R p k) f (subst (λ k. R k n) e h)

either_none : (o : ℕ) → (o ≡ 0) ⊎ (o ≡ 0) → o ≡ 0
either_none o (inl e) = e
either_none o (inr e) = e

less_or_past : (o k : ℕ) → (o < k) ⊎ ((p : ℕ) × (o ≡ k + p))
less_or_past o zero = inr (o, omega arith)
less_or_past zero (suc k) = inl (omega arith)
less_or_past (suc o) (suc k) = on (less_or_past o k)
  where
    on : (o < k) ⊎ ((p : ℕ) × (o ≡ k + p)) → (suc o < suc k) ⊎ ((p : ℕ) × (suc o ≡ suc k + p))
    on (inl l) = inl (omega (arith, l))
    on (inr h) = inr (h.0, omega (arith, h.1))

-- PAIRS OF A LIST
abbrev Has : List Pair → ℕ → ℕ → Type 0
Has [] o n = ⊥
Has (c ∷ cs) o n = ((c.0 ≡ o) × (c.1 ≡ n)) ⊎ Has cs o n

contains-has : (cs : List Pair) (o n : ℕ) → Contains cs (o, n) → Has cs o n
contains-has [] o n h = absurd (omega (arith, h.1))
contains-has (c ∷ cs) o n h = at (contains-has cs o n) h.0 h.1 h.2
  where
    at : (Contains cs (o, n) → Has cs o n) → (k : ℕ) → k < length (c ∷ cs) → slice_index_or (c ∷ cs) k (o, n) ≡ (o, n) → Has (c ∷ cs) o n
    at rest zero l e = inl (ap (λ (d : Pair). d.0) e, ap (λ (d : Pair). d.1) e)
    at rest (suc k) l e = inr (rest (k, omega (arith, l), e))

has-contains : (cs : List Pair) (o n : ℕ) → Has cs o n → Contains cs (o, n)
has-contains [] o n h = absurd h
has-contains (c ∷ cs) o n (inl e) = (0, omega arith, ap (λ (k : ℕ). (k, c.1)) e.0 ∙ ap (λ (k : ℕ). (o, k)) e.1)
has-contains (c ∷ cs) o n (inr h) = let k = has-contains cs o n h in (suc k.0, omega (arith, k.1), k.2)

has-left : (cs ds : List Pair) (o n : ℕ) → Has cs o n → Has (cs ++ ds) o n
has-left [] ds o n h = absurd h
has-left (c ∷ cs) ds o n (inl e) = inl e
has-left (c ∷ cs) ds o n (inr h) = inr (has-left cs ds o n h)

has-right : (cs ds : List Pair) (o n : ℕ) → Has ds o n → Has (cs ++ ds) o n
has-right [] ds o n h = h
has-right (c ∷ cs) ds o n h = inr (has-right cs ds o n h)

has-either : (cs ds : List Pair) (o n : ℕ) → Has (cs ++ ds) o n → Has cs o n ⊎ Has ds o n
has-either [] ds o n h = inr h
has-either (c ∷ cs) ds o n (inl e) = inl (inl e)
has-either (c ∷ cs) ds o n (inr h) = on (has-either cs ds o n h)
  where
    on : Has cs o n ⊎ Has ds o n → Has (c ∷ cs) o n ⊎ Has ds o n
    on (inl g) = inl (inr g)
    on (inr g) = inr g

has-shift : (a b : ℕ) (cs : List Pair) (o n : ℕ) → Has cs o n → Has (shift a b cs) (a + o) (b + n)
has-shift a b [] o n h = absurd h
has-shift a b (c ∷ cs) o n (inl e) = inl (ap (λ k. a + k) e.0, ap (λ k. b + k) e.1)
has-shift a b (c ∷ cs) o n (inr h) = inr (has-shift a b cs o n h)

shift-has : (a b : ℕ) (cs : List Pair) (o n : ℕ) → Has (shift a b cs) o n → (p : ℕ) × (m : ℕ) × (o ≡ a + p) × (n ≡ b + m) × Has cs p m
shift-has a b [] o n h = absurd h
shift-has a b (c ∷ cs) o n (inl e) = (c.0, c.1, sym e.0, sym e.1, inl (refl, refl))
shift-has a b (c ∷ cs) o n (inr h) = let g = shift-has a b cs o n h in (g.0, g.1, g.2, g.3, inr g.4)

has-diagonal : (k i : ℕ) → i < k → Has (diagonal k) i i
has-diagonal zero i l = absurd (omega arith)
has-diagonal (suc k) zero l = inl (refl, refl)
has-diagonal (suc k) (suc i) l =
    inr (same_pair (Has (shift 1 1 (diagonal k))) (1 + i) (1 + i) (suc i) (suc i) (omega arith) (omega arith) (has-shift 1 1 (diagonal k) i i (has-diagonal k i (omega (arith, l)))))

diagonal-has : (k o n : ℕ) → Has (diagonal k) o n → (o ≡ n) × (o < k)
diagonal-has zero o n h = absurd h
diagonal-has (suc k) o n (inl e) = (omega (arith, e.0, e.1), omega (arith, e.0))
diagonal-has (suc k) o n (inr h) =
    let g = shift-has 1 1 (diagonal k) o n h in
    let d = diagonal-has k g.0 g.1 g.4 in
    (omega (arith, g.2, g.3, d.0), omega (arith, g.2, d.1))

-- CUTS OF SECTIONS
abbrev Cut : Sections → ℕ → ℕ → Type 0
Cut [] o n = (o ≡ 0) × (n ≡ 0)
Cut (Keep k ∷ s) o n = ((o ≡ n) × (o < k)) ⊎ ((p : ℕ) × (m : ℕ) × (o ≡ k + p) × (n ≡ k + m) × Cut s p m)
Cut (Replace k t ∷ s) o n = ((o ≡ 0) × (n ≡ 0)) ⊎ ((p : ℕ) × (m : ℕ) × (o ≡ k + p) × (n ≡ length t + m) × Cut s p m)

cut_start : (s : Sections) → Cut s 0 0
cut_start [] = (refl, refl)
cut_start (Keep zero ∷ s) = inr (0, 0, refl, refl, cut_start s)
cut_start (Keep (suc k) ∷ s) = inl (refl, omega arith)
cut_start (Replace k t ∷ s) = inl (refl, refl)

cut-has : (s : Sections) (o n : ℕ) → Cut s o n → Has (cuts spelled s) o n
cut-has [] o n h = inl (sym h.0, sym h.1)
cut-has (Keep k ∷ s) o n (inl e) = has-left (diagonal k) (shift k k (cuts spelled s)) o n (subst (λ j. Has (diagonal k) o j) e.0 (has-diagonal k o e.1))
cut-has (Keep k ∷ s) o n (inr g) =
    has-right (diagonal k) (shift k k (cuts spelled s)) o n
    (same_pair (Has (shift k k (cuts spelled s))) (k + g.0) (k + g.1) o n (sym g.2) (sym g.3) (has-shift k k (cuts spelled s) g.0 g.1 (cut-has s g.0 g.1 g.4)))
cut-has (Replace k t ∷ s) o n (inl e) = inl (sym e.0, sym e.1)
cut-has (Replace k t ∷ s) o n (inr g) =
    inr (same_pair (Has (shift k (length t) (cuts spelled s))) (k + g.0) (length t + g.1) o n (sym g.2) (sym g.3) (has-shift k (length t) (cuts spelled s) g.0 g.1 (cut-has s g.0 g.1 g.4)))

has-cut : (s : Sections) (o n : ℕ) → Has (cuts spelled s) o n → Cut s o n
has-cut [] o n (inl e) = (sym e.0, sym e.1)
has-cut [] o n (inr h) = absurd h
has-cut (Keep k ∷ s) o n h = on (λ p m. has-cut s p m) (has-either (diagonal k) (shift k k (cuts spelled s)) o n h)
  where
    on : ((p m : ℕ) → Has (cuts spelled s) p m → Cut s p m) → Has (diagonal k) o n ⊎ Has (shift k k (cuts spelled s)) o n → Cut (Keep k ∷ s) o n
    on rest (inl d) = inl (diagonal-has k o n d)
    on rest (inr d) = let g = shift-has k k (cuts spelled s) o n d in inr (g.0, g.1, g.2, g.3, rest g.0 g.1 g.4)
has-cut (Replace k t ∷ s) o n (inl e) = inl (sym e.0, sym e.1)
has-cut (Replace k t ∷ s) o n (inr d) = let g = shift-has k (length t) (cuts spelled s) o n d in inr (g.0, g.1, g.2, g.3, has-cut s g.0 g.1 g.4)

cut-same_first : (x : Section Chars) (s r : Sections) → ((o n : ℕ) → Cut s o n → Cut r o n) → (o n : ℕ) → Cut (x ∷ s) o n → Cut (x ∷ r) o n
cut-same_first (Keep k) s r f o n (inl e) = inl e
cut-same_first (Keep k) s r f o n (inr g) = inr (g.0, g.1, g.2, g.3, f g.0 g.1 g.4)
cut-same_first (Replace k t) s r f o n (inl e) = inl e
cut-same_first (Replace k t) s r f o n (inr g) = inr (g.0, g.1, g.2, g.3, f g.0 g.1 g.4)

cut-keeps : (a b : ℕ) (s : Sections) (o n : ℕ) → Cut (Keep (a + b) ∷ s) o n → Cut (Keep a ∷ Keep b ∷ s) o n
cut-keeps a b s o n (inl e) = on (less_or_past o a)
  where
    on : (o < a) ⊎ ((p : ℕ) × (o ≡ a + p)) → Cut (Keep a ∷ Keep b ∷ s) o n
    on (inl l) = inl (e.0, l)
    on (inr h) = inr (h.0, h.0, h.1, omega (arith, h.1, e.0), inl (refl, omega (arith, h.1, e.1)))
cut-keeps a b s o n (inr g) = inr (b + g.0, b + g.1, omega (arith, g.2), omega (arith, g.3), inr (g.0, g.1, refl, refl, g.4))

cut-replaces : (a b : ℕ) (t u : Chars) (s : Sections) (o n : ℕ) → Cut (Replace (a + b) (t ++ u) ∷ s) o n → Cut (Replace a t ∷ Replace b u ∷ s) o n
cut-replaces a b t u s o n (inl e) = inl e
cut-replaces a b t u s o n (inr g) = inr (b + g.0, length u + g.1, omega (arith, g.2), omega (arith, g.3, length-append t u), inr (g.0, g.1, refl, refl, g.4))

cut-put : (x : Section Chars) (s : Sections) (o n : ℕ) → Cut (put spelled x s) o n → Cut (x ∷ s) o n
cut-put x [] o n h = h
cut-put (Keep a) (Keep b ∷ s) o n h = cut-keeps a b s o n h
cut-put (Keep a) (Replace zero u ∷ s) o n h = h
cut-put (Keep a) (Replace (suc b) [] ∷ s) o n h = h
cut-put (Keep a) (Replace (suc b) (d ∷ u) ∷ s) o n h = h
cut-put (Replace zero t) (Keep b ∷ s) o n h = h
cut-put (Replace (suc a) []) (Keep b ∷ s) o n h = h
cut-put (Replace (suc a) (c ∷ t)) (Keep b ∷ s) o n h = h
cut-put (Replace zero t) (Replace zero u ∷ s) o n h = cut-replaces 0 0 t u s o n h
cut-put (Replace zero t) (Replace (suc b) [] ∷ s) o n h = h
cut-put (Replace zero t) (Replace (suc b) (d ∷ u) ∷ s) o n h = h
cut-put (Replace (suc a) []) (Replace zero u ∷ s) o n h = h
cut-put (Replace (suc a) []) (Replace (suc b) [] ∷ s) o n h = cut-replaces (suc a) (suc b) [] [] s o n h
cut-put (Replace (suc a) []) (Replace (suc b) (d ∷ u) ∷ s) o n h = h
cut-put (Replace (suc a) (c ∷ t)) (Replace zero u ∷ s) o n h = h
cut-put (Replace (suc a) (c ∷ t)) (Replace (suc b) [] ∷ s) o n h = h
cut-put (Replace (suc a) (c ∷ t)) (Replace (suc b) (d ∷ u) ∷ s) o n h = h

-- the normal form has no other cuts
cut-normal : (s : Sections) (o n : ℕ) → Cut (normal spelled s) o n → Cut s o n
cut-normal [] o n h = h
cut-normal (Keep zero ∷ s) o n h = inr (o, n, omega arith, omega arith, cut-normal s o n h)
cut-normal (Keep (suc k) ∷ s) o n h =
    cut-same_first (Keep (suc k)) (normal spelled s) s (λ p m g. cut-normal s p m g) o n (cut-put (Keep (suc k)) (normal spelled s) o n h)
cut-normal (Replace zero [] ∷ s) o n h = inr (o, n, omega arith, omega arith, cut-normal s o n h)
cut-normal (Replace zero (c ∷ t) ∷ s) o n h =
    cut-same_first (Replace zero (c ∷ t)) (normal spelled s) s (λ p m g. cut-normal s p m g) o n (cut-put (Replace zero (c ∷ t)) (normal spelled s) o n h)
cut-normal (Replace (suc k) t ∷ s) o n h =
    cut-same_first (Replace (suc k) t) (normal spelled s) s (λ p m g. cut-normal s p m g) o n (cut-put (Replace (suc k) t) (normal spelled s) o n h)

-- CUTS ALONG THE NEW TEXT OF THE FIRST SET
abbrev is_kept_new : Origin ℕ → Bool
is_kept_new old = true
is_kept_new _ = false

-- a cut about the first gap, at the end of a kept character, or further on
abbrev CutNew : NewRow → ℕ → ℕ → Type 0
CutNew (last k) o q = (q ≡ 0) × ((o ≡ 0) ⊎ (o ≡ k))
CutNew (next k x r) o q =
    ((q ≡ 0) × (is_cut_new x ≡ true) × ((o ≡ 0) ⊎ (o ≡ k)))
    ⊎ (((q ≡ 1) × (is_kept_new x ≡ true) × (o ≡ k + 1)) ⊎ ((p : ℕ) × (m : ℕ) × (o ≡ k + (count_of x + p)) × (q ≡ 1 + m) × CutNew r p m))

times_new : (k : ℕ) (r : NewRow) (o q : ℕ) → CutNew (times counted k old r) o q → ((o ≡ q) × (o ≤ k)) ⊎ ((p : ℕ) × (m : ℕ) × (o ≡ k + p) × (q ≡ k + m) × CutNew r p m)
times_new zero r o q h = inr (o, q, omega arith, omega arith, h)
times_new (suc k) r o q (inl e) = let z = either_none o e.2 in inl (omega (arith, e.0, z), omega (arith, z))
times_new (suc k) r o q (inr (inl e)) = inl (omega (arith, e.0, e.2), omega (arith, e.2))
times_new (suc k) r o q (inr (inr g)) = on (times_new k r g.0 g.1 g.4)
  where
    on : ((g.0 ≡ g.1) × (g.0 ≤ k)) ⊎ ((p : ℕ) × (m : ℕ) × (g.0 ≡ k + p) × (g.1 ≡ k + m) × CutNew r p m)
        → ((o ≡ q) × (o ≤ suc k)) ⊎ ((p : ℕ) × (m : ℕ) × (o ≡ suc k + p) × (q ≡ suc k + m) × CutNew r p m)
    on (inl e) = inl (omega (arith, g.2, g.3, e.0), omega (arith, g.2, e.1))
    on (inr f) = inr (f.0, f.1, omega (arith, g.2, f.2), omega (arith, g.3, f.3), f.4)

front_new : (k : ℕ) (r : NewRow) (o q : ℕ) → CutNew (in_front counted k r) o q → ((o ≡ 0) × (q ≡ 0)) ⊎ ((p : ℕ) × (o ≡ k + p) × CutNew r p q)
front_new k (last j) o q h = on h.1
  where
    on : (o ≡ 0) ⊎ (o ≡ k + j) → ((o ≡ 0) × (q ≡ 0)) ⊎ ((p : ℕ) × (o ≡ k + p) × CutNew (last j) p q)
    on (inl e) = inl (e, h.0)
    on (inr e) = inr (j, e, (h.0, inr refl))
front_new k (next j x r) o q (inl e) = on e.2
  where
    on : (o ≡ 0) ⊎ (o ≡ k + j) → ((o ≡ 0) × (q ≡ 0)) ⊎ ((p : ℕ) × (o ≡ k + p) × CutNew (next j x r) p q)
    on (inl z) = inl (z, e.0)
    on (inr z) = inr (j, z, inl (e.0, e.1, inr refl))
front_new k (next j x r) o q (inr (inl e)) = inr (j + 1, omega (arith, e.2), inr (inl (e.0, e.1, refl)))
front_new k (next j x r) o q (inr (inr g)) = inr (j + (count_of x + g.0), omega (arith, g.2), inr (inr (g.0, g.1, refl, g.3, g.4)))

mores_new : (t : Chars) (r : NewRow) (o q : ℕ) → CutNew (mores spelled t r) o q → (m : ℕ) × (q ≡ length t + m) × CutNew r o m
mores_new [] r o q h = (q, omega arith, h)
mores_new (c ∷ t) r o q (inl e) = never e.1
mores_new (c ∷ t) r o q (inr (inl e)) = never e.1
mores_new (c ∷ t) r o q (inr (inr g)) =
    let f = mores_new t r g.0 g.1 g.4 in
    let e : g.0 ≡ o = omega (arith, g.2) in
    (f.0, omega (arith, g.3, f.1), subst (λ p. CutNew r p f.0) e f.2)

new-cut : (s : Sections) (o q : ℕ) → CutNew (along_new spelled s) o q → Cut s o q
new-cut [] o q h = (either_none o h.1, h.0)
new-cut (Keep k ∷ s) o q h = on (λ p m. new-cut s p m) (times_new k (along_new spelled s) o q h)
  where
    inside : (o ≡ q) × (o ≤ k) → (o < k) ⊎ ((p : ℕ) × (o ≡ k + p)) → Cut (Keep k ∷ s) o q
    inside e (inl l) = inl (e.0, l)
    inside e (inr p) = inr (0, 0, omega (arith, e.1, p.1), omega (arith, e.0, e.1, p.1), cut_start s)

    on : ((p m : ℕ) → CutNew (along_new spelled s) p m → Cut s p m) → ((o ≡ q) × (o ≤ k)) ⊎ ((p : ℕ) × (m : ℕ) × (o ≡ k + p) × (q ≡ k + m) × CutNew (along_new spelled s) p m) → Cut (Keep k ∷ s) o q
    on rest (inl e) = inside e (less_or_past o k)
    on rest (inr g) = inr (g.0, g.1, g.2, g.3, rest g.0 g.1 g.4)
new-cut (Replace k [] ∷ s) o q h = on (λ p m. new-cut s p m) (front_new k (along_new spelled s) o q h)
  where
    on : ((p m : ℕ) → CutNew (along_new spelled s) p m → Cut s p m) → ((o ≡ 0) × (q ≡ 0)) ⊎ ((p : ℕ) × (o ≡ k + p) × CutNew (along_new spelled s) p q) → Cut (Replace k [] ∷ s) o q
    on rest (inl e) = inl e
    on rest (inr g) = inr (g.0, q, g.1, omega arith, rest g.0 q g.2)
new-cut (Replace k (c ∷ t) ∷ s) o q (inl e) = inl (either_none o e.2, e.0)
new-cut (Replace k (c ∷ t) ∷ s) o q (inr (inl e)) = never e.1
new-cut (Replace k (c ∷ t) ∷ s) o q (inr (inr g)) =
    let f = mores_new t (along_new spelled s) g.0 g.1 g.4 in
    inr (g.0, f.0, omega (arith, g.2), omega (arith, g.3, f.1), new-cut s g.0 f.0 f.2)

-- CUTS ALONG THE OLD TEXT OF THE SECOND SET
abbrev size_of : Fate Chars → ℕ
size_of stays = 1
size_of (leaves t) = length t
size_of follows = 0

abbrev is_kept_old : Fate Chars → Bool
is_kept_old stays = true
is_kept_old _ = false

abbrev CutOld : OldRow → ℕ → ℕ → Type 0
CutOld (last t) q n = (q ≡ 0) × ((n ≡ 0) ⊎ (n ≡ length t))
CutOld (next t y s) q n =
    ((q ≡ 0) × (is_cut_old y ≡ true) × ((n ≡ 0) ⊎ (n ≡ length t)))
    ⊎ (((q ≡ 1) × (is_kept_old y ≡ true) × (n ≡ length t + 1)) ⊎ ((p : ℕ) × (m : ℕ) × (q ≡ 1 + p) × (n ≡ length t + (size_of y + m)) × CutOld s p m))

times_old : (k : ℕ) (r : OldRow) (q n : ℕ) → CutOld (times spelled k stays r) q n → ((q ≡ n) × (q ≤ k)) ⊎ ((p : ℕ) × (m : ℕ) × (q ≡ k + p) × (n ≡ k + m) × CutOld r p m)
times_old zero r q n h = inr (q, n, omega arith, omega arith, h)
times_old (suc k) r q n (inl e) = let z = either_none n e.2 in inl (omega (arith, e.0, z), omega (arith, e.0))
times_old (suc k) r q n (inr (inl e)) = inl (omega (arith, e.0, e.2), omega (arith, e.0))
times_old (suc k) r q n (inr (inr g)) = on (times_old k r g.0 g.1 g.4)
  where
    on : ((g.0 ≡ g.1) × (g.0 ≤ k)) ⊎ ((p : ℕ) × (m : ℕ) × (g.0 ≡ k + p) × (g.1 ≡ k + m) × CutOld r p m)
        → ((q ≡ n) × (q ≤ suc k)) ⊎ ((p : ℕ) × (m : ℕ) × (q ≡ suc k + p) × (n ≡ suc k + m) × CutOld r p m)
    on (inl e) = inl (omega (arith, g.2, g.3, e.0), omega (arith, g.2, e.1))
    on (inr f) = inr (f.0, f.1, omega (arith, g.2, f.2), omega (arith, g.3, f.3), f.4)

times_follows : (k : ℕ) (r : OldRow) (q n : ℕ) → CutOld (times spelled k follows r) q n → (p : ℕ) × (q ≡ k + p) × CutOld r p n
times_follows zero r q n h = (q, omega arith, h)
times_follows (suc k) r q n (inl e) = never e.1
times_follows (suc k) r q n (inr (inl e)) = never e.1
times_follows (suc k) r q n (inr (inr g)) =
    let f = times_follows k r g.0 g.1 g.4 in
    let e : g.1 ≡ n = omega (arith, g.3) in
    (f.0, omega (arith, g.2, f.1), subst (λ m. CutOld r f.0 m) e f.2)

front_old : (t : Chars) (r : OldRow) (q n : ℕ) → CutOld (in_front spelled t r) q n → ((q ≡ 0) × (n ≡ 0)) ⊎ ((m : ℕ) × (n ≡ length t + m) × CutOld r q m)
front_old t (last u) q n h = on h.1
  where
    on : (n ≡ 0) ⊎ (n ≡ length (t ++ u)) → ((q ≡ 0) × (n ≡ 0)) ⊎ ((m : ℕ) × (n ≡ length t + m) × CutOld (last u) q m)
    on (inl e) = inl (h.0, e)
    on (inr e) = inr (length u, omega (arith, e, length-append t u), (h.0, inr refl))
front_old t (next u y s) q n (inl e) = on e.2
  where
    on : (n ≡ 0) ⊎ (n ≡ length (t ++ u)) → ((q ≡ 0) × (n ≡ 0)) ⊎ ((m : ℕ) × (n ≡ length t + m) × CutOld (next u y s) q m)
    on (inl z) = inl (e.0, z)
    on (inr z) = inr (length u, omega (arith, z, length-append t u), inl (e.0, e.1, inr refl))
front_old t (next u y s) q n (inr (inl e)) = inr (length u + 1, omega (arith, e.2, length-append t u), inr (inl (e.0, e.1, refl)))
front_old t (next u y s) q n (inr (inr g)) =
    inr (length u + (size_of y + g.1), omega (arith, g.3, length-append t u), inr (inr (g.0, g.1, g.2, refl, g.4)))

old-cut : (s : Sections) (q n : ℕ) → CutOld (along_old spelled s) q n → Cut s q n
old-cut [] q n h = (h.0, either_none n h.1)
old-cut (Keep k ∷ s) q n h = on (λ p m. old-cut s p m) (times_old k (along_old spelled s) q n h)
  where
    inside : (q ≡ n) × (q ≤ k) → (q < k) ⊎ ((p : ℕ) × (q ≡ k + p)) → Cut (Keep k ∷ s) q n
    inside e (inl l) = inl (e.0, l)
    inside e (inr p) = inr (0, 0, omega (arith, e.1, p.1), omega (arith, e.0, e.1, p.1), cut_start s)

    on : ((p m : ℕ) → CutOld (along_old spelled s) p m → Cut s p m) → ((q ≡ n) × (q ≤ k)) ⊎ ((p : ℕ) × (m : ℕ) × (q ≡ k + p) × (n ≡ k + m) × CutOld (along_old spelled s) p m) → Cut (Keep k ∷ s) q n
    on rest (inl e) = inside e (less_or_past q k)
    on rest (inr g) = inr (g.0, g.1, g.2, g.3, rest g.0 g.1 g.4)
old-cut (Replace zero t ∷ s) q n h = on (λ p m. old-cut s p m) (front_old t (along_old spelled s) q n h)
  where
    on : ((p m : ℕ) → CutOld (along_old spelled s) p m → Cut s p m) → ((q ≡ 0) × (n ≡ 0)) ⊎ ((m : ℕ) × (n ≡ length t + m) × CutOld (along_old spelled s) q m) → Cut (Replace zero t ∷ s) q n
    on rest (inl e) = inl e
    on rest (inr g) = inr (q, g.0, omega arith, g.1, rest q g.0 g.2)
old-cut (Replace (suc k) t ∷ s) q n (inl e) = inl (e.0, either_none n e.2)
old-cut (Replace (suc k) t ∷ s) q n (inr (inl e)) = never e.1
old-cut (Replace (suc k) t ∷ s) q n (inr (inr g)) =
    let f = times_follows k (along_old spelled s) g.0 g.1 g.4 in
    inr (f.0, g.1, omega (arith, g.2, f.1), omega (arith, g.3), old-cut s f.0 g.1 f.2)

-- CUTS OF PIECES, after the Replace that is open
abbrev After : Open Chars → ℕ → ℕ → Type 0
After g a b = (p : ℕ) × (m : ℕ) × (a ≡ g.count + p) × (b ≡ length g.text + m) × Cut g.rest p m

after-single : (x : Section Chars) (g : Open Chars) (a b : ℕ) → After (add spelled (single x) g) a b → Cut (x ∷ closed spelled g) a b
after-single (Keep zero) g a b h = inr (a, b, omega arith, omega arith, inr h)
after-single (Keep (suc k)) g a b h = same_pair (Cut (Keep (suc k) ∷ closed spelled g)) h.0 h.1 a b (omega (arith, h.2)) (omega (arith, h.3)) h.4
after-single (Replace zero []) g a b h = inr (a, b, omega arith, omega arith, inr h)
after-single (Replace zero (c ∷ t)) g a b h = same_pair (Cut (Replace zero (c ∷ t) ∷ closed spelled g)) h.0 h.1 a b (omega (arith, h.2)) (omega (arith, h.3)) h.4
after-single (Replace (suc k) t) g a b h = same_pair (Cut (Replace (suc k) t ∷ closed spelled g)) h.0 h.1 a b (omega (arith, h.2)) (omega (arith, h.3)) h.4

after-stretch : (k : ℕ) (u : Chars) (g : Open Chars) (a b : ℕ) → After (add spelled (stretch false k u) g) a b → (p : ℕ) × (m : ℕ) × (a ≡ k + p) × (b ≡ length u + m) × After g p m
after-stretch k u g a b h = (g.count + h.0, length g.text + h.1, omega (arith, h.2), omega (arith, h.3, length-append u g.text), (h.0, h.1, refl, refl, h.4))

after-start : (k : ℕ) (u : Chars) (g : Open Chars) (a b : ℕ) → After (add spelled (stretch true k u) g) a b
    → ((a ≡ 0) × (b ≡ 0)) ⊎ ((p : ℕ) × (m : ℕ) × (a ≡ k + p) × (b ≡ length u + m) × After g p m)
after-start k u g a b h = on h.4
  where
    on : Cut (Replace (k + g.count) (u ++ g.text) ∷ g.rest) h.0 h.1 → ((a ≡ 0) × (b ≡ 0)) ⊎ ((p : ℕ) × (m : ℕ) × (a ≡ k + p) × (b ≡ length u + m) × After g p m)
    on (inl e) = inl (omega (arith, h.2, e.0), omega (arith, h.3, e.1))
    on (inr f) = inr (g.count + f.0, length g.text + f.1, omega (arith, h.2, f.2), omega (arith, h.3, f.3, length-append u g.text), (f.0, f.1, refl, refl, f.4))

-- about a gap, or after it
abbrev AboutGap : (k : ℕ) (t : Chars) (g : Open Chars) (a b : ℕ) → Type 0
AboutGap k t g a b = (((a ≡ 0) ⊎ (a ≡ k)) × ((b ≡ 0) ⊎ (b ≡ length t))) ⊎ ((p : ℕ) × (m : ℕ) × (a ≡ k + p) × (b ≡ length t + m) × After g p m)

after-gap : (k : ℕ) (t : Chars) (g : Open Chars) (a b : ℕ) → After (add spelled (single (Replace k [])) (add spelled (single (Replace 0 t)) g)) a b → AboutGap k t g a b
after-gap k t g a b h = deleted (after-single (Replace k []) (add spelled (single (Replace 0 t)) g) a b h)
  where
    rest : (p m v w : ℕ) → a ≡ k + p → b ≡ 0 + m → p ≡ 0 + v → m ≡ length t + w → Cut (closed spelled g) v w → AboutGap k t g a b
    rest p m v w e f i j (inl z) = inl (inr (omega (arith, e, i, z.0)), inr (omega (arith, f, j, z.1)))
    rest p m v w e f i j (inr r) = inr (v, w, omega (arith, e, i), omega (arith, f, j), r)

    inserted : (p m : ℕ) → a ≡ k + p → b ≡ 0 + m → Cut (Replace 0 t ∷ closed spelled g) p m → AboutGap k t g a b
    inserted p m e f (inl z) = inl (inr (omega (arith, e, z.0)), inl (omega (arith, f, z.1)))
    inserted p m e f (inr d) = rest p m d.0 d.1 e f d.2 d.3 d.4

    between : (p m : ℕ) → a ≡ k + p → b ≡ 0 + m → Cut (closed spelled (add spelled (single (Replace 0 t)) g)) p m → AboutGap k t g a b
    between p m e f (inl z) = inl (inr (omega (arith, e, z.0)), inl (omega (arith, f, z.1)))
    between p m e f (inr r) = inserted p m e f (after-single (Replace 0 t) g p m r)

    deleted : Cut (Replace k [] ∷ closed spelled (add spelled (single (Replace 0 t)) g)) a b → AboutGap k t g a b
    deleted (inl e) = inl (inl e.0, inl e.1)
    deleted (inr d) = between d.0 d.1 d.2 d.3 d.4

-- SHARED PLACES
abbrev Shared : NewRow → OldRow → ℕ → ℕ → Type 0
Shared r s o n = (q : ℕ) × CutNew r o q × CutOld s q n

abbrev AllShared : NewRow → OldRow → Type 0
AllShared r s = (o n : ℕ) → After (gather spelled (composed spelled r s)) o n → Shared r s o n

further : (x : Origin ℕ) (y : Fate Chars) (k : ℕ) (t : Chars) (r : NewRow) (s : OldRow) (o n p m : ℕ) → o ≡ k + (count_of x + p) → n ≡ length t + (size_of y + m) → Shared r s p m
    → Shared (next k x r) (next t y s) o n
further x y k t r s o n p m e f z = (1 + z.0, inr (inr (p, z.0, e, refl, z.1)), inr (inr (z.0, m, refl, f, z.2)))

-- where one of them goes on with a Replace
across : (x : Origin ℕ) (y : Fate Chars) (u : Chars) → length u ≡ size_of y → (k : ℕ) (t : Chars) (r : NewRow) (s : OldRow) → AllShared r s → (o n : ℕ)
    → After (add spelled (stretch false k t) (add spelled (stretch false (count_of x) u) (gather spelled (composed spelled r s)))) o n → Shared (next k x r) (next t y s) o n
across x y u l k t r s rest o n h =
    let g = gather spelled (composed spelled r s) in
    let a = after-stretch k t (add spelled (stretch false (count_of x) u) g) o n h in
    let b = after-stretch (count_of x) u g a.0 a.1 a.4 in
    further x y k t r s o n b.0 b.1 (omega (arith, a.2, b.2)) (omega (arith, a.3, b.3, l)) (rest b.0 b.1 b.4)

-- where both have a cut, and one of them replaces what follows
replaced_after : (x : Origin ℕ) (y : Fate Chars) (u : Chars) → is_cut_new x ≡ true → is_cut_old y ≡ true → length u ≡ size_of y → (k : ℕ) (t : Chars) (r : NewRow) (s : OldRow) → AllShared r s
    → (o n : ℕ) → After (add spelled (single (Replace k [])) (add spelled (single (Replace 0 t)) (add spelled (stretch true (count_of x) u) (gather spelled (composed spelled r s))))) o n
    → Shared (next k x r) (next t y s) o n
replaced_after x y u i j l k t r s rest o n h = about (after-gap k t (add spelled (stretch true (count_of x) u) g) o n h)
  where
    g : Open Chars
    g = gather spelled (composed spelled r s)

    on : (p m : ℕ) → o ≡ k + p → n ≡ length t + m → ((p ≡ 0) × (m ≡ 0)) ⊎ ((v : ℕ) × (w : ℕ) × (p ≡ count_of x + v) × (m ≡ length u + w) × After g v w) → Shared (next k x r) (next t y s) o n
    on p m e f (inl z) = (0, inl (refl, i, inr (omega (arith, e, z.0))), inl (refl, j, inr (omega (arith, f, z.1))))
    on p m e f (inr d) = further x y k t r s o n d.0 d.1 (omega (arith, e, d.2)) (omega (arith, f, d.3, l)) (rest d.0 d.1 d.4)

    about : AboutGap k t (add spelled (stretch true (count_of x) u) g) o n → Shared (next k x r) (next t y s) o n
    about (inl e) = (0, inl (refl, i, e.0), inl (refl, j, e.1))
    about (inr d) = on d.0 d.1 d.2 d.3 (after-start (count_of x) u g d.0 d.1 d.4)

-- where both keep what follows
kept_after : (k : ℕ) (t : Chars) (r : NewRow) (s : OldRow) → AllShared r s
    → (o n : ℕ) → After (add spelled (single (Replace k [])) (add spelled (single (Replace 0 t)) (add spelled (single (Keep 1)) (gather spelled (composed spelled r s))))) o n
    → Shared (next k old r) (next t stays s) o n
kept_after k t r s rest o n h = about (after-gap k t (add spelled (single (Keep 1)) g) o n h)
  where
    g : Open Chars
    g = gather spelled (composed spelled r s)

    past : (p m v w : ℕ) → o ≡ k + p → n ≡ length t + m → p ≡ 1 + v → m ≡ 1 + w → Cut (closed spelled g) v w → Shared (next k old r) (next t stays s) o n
    past p m v w e f i j (inl z) = (1, inr (inl (refl, refl, omega (arith, e, i, z.0))), inr (inl (refl, refl, omega (arith, f, j, z.1))))
    past p m v w e f i j (inr d) = further old stays k t r s o n v w (omega (arith, e, i)) (omega (arith, f, j)) (rest v w d)

    on : (p m : ℕ) → o ≡ k + p → n ≡ length t + m → Cut (Keep 1 ∷ closed spelled g) p m → Shared (next k old r) (next t stays s) o n
    on p m e f (inl z) = (0, inl (refl, refl, inr (omega (arith, e, z.1))), inl (refl, refl, inr (omega (arith, f, z.0, z.1))))
    on p m e f (inr d) = past p m d.0 d.1 e f d.2 d.3 d.4

    about : AboutGap k t (add spelled (single (Keep 1)) g) o n → Shared (next k old r) (next t stays s) o n
    about (inl e) = (0, inl (refl, refl, e.0), inl (refl, refl, e.1))
    about (inr d) = on d.0 d.1 d.2 d.3 (after-single (Keep 1) g d.0 d.1 d.4)

shared : (r : NewRow) (s : OldRow) → width r ≡ width s → AllShared r s
shared (last k) (last t) w o n h = about (after-gap k t (gather spelled []) o n h)
  where
    about : AboutGap k t (gather spelled []) o n → Shared (last k) (last t) o n
    about (inl e) = (0, (refl, e.0), (refl, e.1))
    about (inr d) = (0, (refl, inr (omega (arith, d.2, d.4.2, d.4.4.0))), (refl, inr (omega (arith, d.3, d.4.3, d.4.4.1))))
shared (last k) (next t y s) w o n h = absurd (omega arith)
shared (next k x r) (last t) w o n h = absurd (omega arith)
shared (next k old r) (next t stays s) w o n h = kept_after k t r s (shared r s (omega (arith, w))) o n h
shared (next k old r) (next t (leaves u) s) w o n h = replaced_after old (leaves u) u refl refl refl k t r s (shared r s (omega (arith, w))) o n h
shared (next k old r) (next t follows s) w o n h = across old follows [] refl k t r s (shared r s (omega (arith, w))) o n h
shared (next k (new j c) r) (next t stays s) w o n h = replaced_after (new j c) stays (c ∷ []) refl refl refl k t r s (shared r s (omega (arith, w))) o n h
shared (next k (new j c) r) (next t (leaves u) s) w o n h = replaced_after (new j c) (leaves u) u refl refl refl k t r s (shared r s (omega (arith, w))) o n h
shared (next k (new j c) r) (next t follows s) w o n h = across (new j c) follows [] refl k t r s (shared r s (omega (arith, w))) o n h
shared (next k (more c) r) (next t stays s) w o n h = across (more c) stays (c ∷ []) refl k t r s (shared r s (omega (arith, w))) o n h
shared (next k (more c) r) (next t (leaves u) s) w o n h = across (more c) (leaves u) u refl k t r s (shared r s (omega (arith, w))) o n h
shared (next k (more c) r) (next t follows s) w o n h = across (more c) follows [] refl k t r s (shared r s (omega (arith, w))) o n h

pub cuts_are_shared : (a b : Sections) → new_size spelled a ≡ old_size b → CutsAreShared a b (compose spelled a b)
cuts_are_shared a b w o n h = on (cut-normal (closed spelled g) o n (has-cut (compose spelled a b) o n (contains-has (cuts spelled (compose spelled a b)) o n h)))
  where
    g : Open Chars
    g = gather spelled (composed spelled (along_new spelled a) (along_old spelled b))

    through : (q : ℕ) → Cut a o q → Cut b q n → (p : ℕ) × Contains (cuts spelled a) (o, p) × Contains (cuts spelled b) (p, n)
    through q c d = (q, has-contains (cuts spelled a) o q (cut-has a o q c), has-contains (cuts spelled b) q n (cut-has b q n d))

    on : Cut (closed spelled g) o n → (p : ℕ) × Contains (cuts spelled a) (o, p) × Contains (cuts spelled b) (p, n)
    on (inl e) = through 0 (same_pair (Cut a) 0 0 o 0 (sym e.0) refl (cut_start a)) (same_pair (Cut b) 0 0 0 n refl (sym e.1) (cut_start b))
    on (inr d) =
        let z = shared (along_new spelled a) (along_old spelled b) (width-along_new a ∙ (w ∙ sym (width-along_old spelled b))) o n d in
        through z.0 (new-cut a o z.0 z.1) (old-cut b z.0 n z.2)
