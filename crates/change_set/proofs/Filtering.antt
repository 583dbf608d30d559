-- Filtering a set, one run of characters after the other.
use Rattle.std.proofs.Common.{◌≡◌, ℕ, zero, suc, ◌+◌, ◌-◌, ◌≤◌, ◌<◌, Bool, true, false, not, cond, ◌⊎◌, inl, inr, List, [], ◌∷◌, ◌++◌, refl, sym, ap, subst, ◌∙◌, append_assoc, append-nil, arith, add-zero}
use Rattle.change_desc.specs.declared.section.Section.{Section}
use Rattle.change_desc.specs.declared.section.Section.TheVariants.{Keep, Replace}
use Rattle.change_desc.specs.Sections.{Sections, spelled, put, normal, old_of, new_of, old_size, new_size}
use Rattle.change_desc.specs.Columns.{Row, last, next, Fate, stays, leaves, follows, in_front, times, along_old}
use Rattle.change_desc.specs.Pieces.{Piece, single, Open, closed, gather}
use Rattle.change_desc.specs.Compose.{is_cut_old}
use Rattle.change_desc.specs.Filter.{taken_char, taken}
use Rattle.change_set.specs.Protection.{run_section}
use Rattle.change_desc.proofs.Normal.{spelled_laws, put-put, in_order-normal, normal-prefix, normal-back}
use Rattle.change_desc.proofs.Merges.{old_size-normal}
use Rattle.change_desc.proofs.Weaves.{new_size-normal}

abbrev pub Chars : Type 0
Chars = List ℕ

abbrev pub Along : Type 0
Along = Row Chars (Fate Chars)

module _ (char gap : ℕ → Bool) where
  -- what a row comes to from a place on: a Replace that may be open, and sections
  abbrev pub opened : ℕ → Along → Open Chars
  opened p r = gather spelled (taken spelled char gap p r)

  abbrev pub parts : ℕ → Along → Sections
  parts p r = closed spelled (opened p r)

  -- nothing is open first
  abbrev pub Shut : Open Chars → Type 0
  Shut o = (o.count ≡ 0) × (o.text ≡ [])

  empty_gap : (b : Bool) (ps : List (Piece Chars)) → gather spelled (cond b (single (Replace 0 []) ∷ []) [] ++ ps) ≡ gather spelled ps
  empty_gap true ps = refl
  empty_gap false ps = refl

  -- one character that is kept
  keep_char : (p : ℕ) (y : Fate Chars) (r : Along) → taken_char spelled (char p) y ≡ single (Keep 1) →
      opened p (next [] y r) ≡ record { count = 0; text = []; rest = Keep 1 ∷ parts (p + 1) r }
  keep_char p y r h =
      empty_gap (gap p) (taken_char spelled (char p) y ∷ taken spelled char gap (p + 1) r) ∙ ap (λ q. gather spelled (q ∷ taken spelled char gap (p + 1) r)) h

  one_more : (k : ℕ) (s : Sections) → put spelled (Keep 1) (normal spelled (Keep k ∷ s)) ≡ normal spelled (Keep (suc k) ∷ s)
  one_more zero s = refl
  one_more (suc k) s =
      let e : 1 + suc k ≡ suc (suc k) = omega arith in
      sym (put-put spelled spelled_laws (Keep 1) (Keep (suc k)) (normal spelled s) refl (in_order-normal spelled spelled_laws s)) ∙ ap (λ n. put spelled (Keep n) (normal spelled s)) e

  keep_step : (p k : ℕ) (y : Fate Chars) (r s : Along) → taken_char spelled (char p) y ≡ single (Keep 1) → normal spelled (parts (p + 1) r) ≡ normal spelled (Keep k ∷ parts (p + suc k) s) →
      normal spelled (parts p (next [] y r)) ≡ normal spelled (Keep (suc k) ∷ parts (p + suc k) s)
  keep_step p k y r s h e =
      ap (λ o. normal spelled (closed spelled o)) (keep_char p y r h) ∙ (ap (put spelled (Keep 1)) e ∙ one_more k (parts (p + suc k) s))

  kept-none : (p : ℕ) (s : Along) → normal spelled (parts p s) ≡ normal spelled (Keep 0 ∷ parts (p + 0) s)
  kept-none p s = ap (λ q. normal spelled (parts q s)) (sym (add-zero p))

  always : (b : Bool) → taken_char (spelled {C = ℕ}) b stays ≡ single (Keep 1)
  always true = refl
  always false = refl

  -- characters that the set keeps
  pub stays-run : (n p : ℕ) (r : Along) → normal spelled (parts p (times spelled n stays r)) ≡ normal spelled (Keep n ∷ parts (p + n) r)
  stays-run zero p r = kept-none p r
  stays-run (suc n) p r =
      let e : p + 1 + n ≡ p + suc n = omega arith in
      keep_step p n stays (times spelled n stays r) r (always (char p)) (stays-run n (p + 1) r ∙ ap (λ q. normal spelled (Keep n ∷ parts q r)) e)

  -- deleted characters that are not taken
  not_taken : (b : Bool) (y : Fate Chars) → b ≡ false → taken_char spelled b y ≡ single (Keep 1)
  not_taken false stays h = refl
  not_taken false (leaves t) h = refl
  not_taken false follows h = refl
  not_taken true y h = cc

  -- characters of one fate
  abbrev pub AllAre : Bool → ℕ → ℕ → Type 0
  AllAre b p n = (q : ℕ) → q < n → char (p + q) ≡ b

  first_is : (b : Bool) (p n : ℕ) → AllAre b p (suc n) → char p ≡ b
  first_is b p n a = subst (λ q. char q ≡ b) (add-zero p) (a 0 (omega arith))

  others_are : (b : Bool) (p n : ℕ) → AllAre b p (suc n) → AllAre b (p + 1) n
  others_are b p n a = λ q l. let e : p + suc q ≡ p + 1 + q = omega arith in subst (λ k. char k ≡ b) e (a (suc q) (omega arith))

  kept-run : (n p : ℕ) (r : Along) → AllAre false p n → normal spelled (parts p (times spelled n follows r)) ≡ normal spelled (Keep n ∷ parts (p + n) r)
  kept-run zero p r a = kept-none p r
  kept-run (suc n) p r a =
      let e : p + 1 + n ≡ p + suc n = omega arith in
      keep_step p n follows (times spelled n follows r) r (not_taken (char p) follows (first_is false p n a))
      (kept-run n (p + 1) r (others_are false p n a) ∙ ap (λ q. normal spelled (Keep n ∷ parts q r)) e)

  kept-first : (n p : ℕ) (t : Chars) (r : Along) → AllAre false p (suc n) → normal spelled (parts p (next [] (leaves t) (times spelled n follows r))) ≡ normal spelled (Keep (suc n) ∷ parts (p + suc n) r)
  kept-first n p t r a =
      let e : p + 1 + n ≡ p + suc n = omega arith in
      keep_step p n (leaves t) (times spelled n follows r) r (not_taken (char p) (leaves t) (first_is false p n a))
      (kept-run n (p + 1) r (others_are false p n a) ∙ ap (λ q. normal spelled (Keep n ∷ parts q r)) e)

  -- deleted characters that are taken
  open_same : (a b : ℕ) (t u : Chars) (r q : Sections) → a ≡ b → t ≡ u → r ≡ q → ◌≡◌ {A = Open Chars} (record { count = a; text = t; rest = r }) (record { count = b; text = u; rest = q })
  open_same a b t u r q e f g = rw (e, f, g) refl

  cut_char : (p : ℕ) (r : Along) → char p ≡ true → opened p (next [] follows r) ≡ record { count = 1 + (opened (p + 1) r).count; text = (opened (p + 1) r).text; rest = (opened (p + 1) r).rest }
  cut_char p r h =
      empty_gap (gap p) (taken_char spelled (char p) follows ∷ taken spelled char gap (p + 1) r) ∙
      ap (λ b. gather spelled (taken_char spelled b follows ∷ taken spelled char gap (p + 1) r)) h

  cut-rest : (n p : ℕ) (r : Along) → AllAre true p n →
      opened p (times spelled n follows r) ≡ record { count = n + (opened (p + n) r).count; text = (opened (p + n) r).text; rest = (opened (p + n) r).rest }
  cut-rest zero p r a =
      let e : p ≡ p + 0 = omega arith in
      open_same (opened p r).count (0 + (opened (p + 0) r).count) (opened p r).text (opened (p + 0) r).text (opened p r).rest (opened (p + 0) r).rest
      (ap (λ q. (opened q r).count) e ∙ omega arith) (ap (λ q. (opened q r).text) e) (ap (λ q. (opened q r).rest) e)
  cut-rest (suc n) p r a =
      let e : p + 1 + n ≡ p + suc n = omega arith in
      let h : opened (p + 1) (times spelled n follows r) ≡ record { count = n + (opened (p + 1 + n) r).count; text = (opened (p + 1 + n) r).text; rest = (opened (p + 1 + n) r).rest } =
      cut-rest n (p + 1) r (others_are true p n a) in
      cut_char p (times spelled n follows r) (first_is true p n a) ∙
      open_same (1 + (opened (p + 1) (times spelled n follows r)).count) (suc n + (opened (p + suc n) r).count)
      (opened (p + 1) (times spelled n follows r)).text (opened (p + suc n) r).text (opened (p + 1) (times spelled n follows r)).rest (opened (p + suc n) r).rest
      (ap (λ o. 1 + o.count) h ∙ (ap (λ q. 1 + (n + (opened q r).count)) e ∙ omega arith)) (ap (λ o. o.text) h ∙ ap (λ q. (opened q r).text) e) (ap (λ o. o.rest) h ∙ ap (λ q. (opened q r).rest) e)

  shut-prefix : (x : Section Chars) (o : Open Chars) → Shut o → normal spelled (x ∷ closed spelled o) ≡ normal spelled (x ∷ o.rest)
  shut-prefix x o h = rw (h.0, h.1) refl

  cut-run : (n p : ℕ) (r : Along) → AllAre true p (suc n) → Shut (opened (p + suc n) r) → normal spelled (parts p (times spelled (suc n) follows r)) ≡ normal spelled (Replace (suc n) [] ∷ parts (p + suc n) r)
  cut-run n p r a h =
      let o : Open Chars = opened (p + suc n) r in
      ap (λ o. normal spelled (closed spelled o)) (cut-rest (suc n) p r a) ∙
      (rw (h.0, h.1, add-zero (suc n)) refl ∙ sym (shut-prefix (Replace (suc n) []) o h))

  leave_char : (p : ℕ) (t : Chars) (r : Along) → char p ≡ true →
      opened p (next [] (leaves t) r) ≡ record { count = 0; text = []; rest = Replace (1 + (opened (p + 1) r).count) (t ++ (opened (p + 1) r).text) ∷ (opened (p + 1) r).rest }
  leave_char p t r h =
      empty_gap (gap p) (taken_char spelled (char p) (leaves t) ∷ taken spelled char gap (p + 1) r) ∙
      ap (λ b. gather spelled (taken_char spelled b (leaves t) ∷ taken spelled char gap (p + 1) r)) h

  cut-first : (n p : ℕ) (t : Chars) (r : Along) → AllAre true p (suc n) → Shut (opened (p + suc n) r) →
      normal spelled (parts p (next [] (leaves t) (times spelled n follows r))) ≡ normal spelled (Replace (suc n) t ∷ parts (p + suc n) r)
  cut-first n p t r a h =
      let e : p + 1 + n ≡ p + suc n = omega arith in
      let o : Open Chars = opened (p + suc n) r in
      let g : opened (p + 1) (times spelled n follows r) ≡ record { count = n + o.count; text = o.text; rest = o.rest } =
      cut-rest n (p + 1) r (others_are true p n a) ∙ ap (λ q. record { count = n + (opened q r).count; text = (opened q r).text; rest = (opened q r).rest }) e in
      let k : 1 + (n + 0) ≡ suc n = omega arith in
      ap (λ o. normal spelled (closed spelled o)) (leave_char p t (times spelled n follows r) (first_is true p n a)) ∙
      (ap (λ (q : Open Chars). normal spelled (Replace (1 + q.count) (t ++ q.text) ∷ q.rest)) g ∙
      (rw (h.0, h.1, k, append-nil t) refl ∙ sym (shut-prefix (Replace (suc n) t) o h)))

  -- where nothing is open
  shut_gap : (b : Bool) (g : Chars) (ps : List (Piece Chars)) → Shut (gather spelled ps) → Shut (gather spelled (cond b (single (Replace 0 g) ∷ []) [] ++ ps))
  shut_gap false g ps h = h
  shut_gap true [] ps h = h
  shut_gap true (c ∷ g) ps h = (refl, refl)

  shut_end : (b : Bool) (g : Chars) → Shut (gather spelled (cond b (single (Replace 0 g) ∷ []) []))
  shut_end false g = (refl, refl)
  shut_end true [] = (refl, refl)
  shut_end true (c ∷ g) = (refl, refl)

  shut_column : (b : Bool) (y : Fate Chars) (ps : List (Piece Chars)) → is_cut_old y ≡ true → Shut (gather spelled (taken_char spelled b y ∷ ps))
  shut_column true stays ps h = (refl, refl)
  shut_column false stays ps h = (refl, refl)
  shut_column true (leaves t) ps h = (refl, refl)
  shut_column false (leaves t) ps h = (refl, refl)
  shut_column b follows ps h = cc

  abbrev IsFresh : Along → Type 0
  IsFresh (last g) = Unit {0}
  IsFresh (next g y r) = is_cut_old y ≡ true

  shut-row : (p : ℕ) (r : Along) → IsFresh r → Shut (opened p r)
  shut-row p (last g) h = shut_end (gap p) g
  shut-row p (next g y r) h = shut_gap (gap p) g (taken_char spelled (char p) y ∷ taken spelled char gap (p + 1) r) (shut_column (char p) y (taken spelled char gap (p + 1) r) h)

  fresh-prefix : (t : Chars) (r : Along) → IsFresh r → IsFresh (in_front spelled t r)
  fresh-prefix t (last g) h = tt
  fresh-prefix t (next g y r) h = h

  fresh-times : (n : ℕ) (r : Along) → IsFresh r → IsFresh (times spelled n stays r)
  fresh-times zero r h = h
  fresh-times (suc n) r h = refl

  fresh-along : (s : Sections) → IsFresh (along_old spelled s)
  fresh-along [] = tt
  fresh-along (Keep n ∷ s) = fresh-times n (along_old spelled s) (fresh-along s)
  fresh-along (Replace zero t ∷ s) = fresh-prefix t (along_old spelled s) (fresh-along s)
  fresh-along (Replace (suc n) t ∷ s) = refl

  shut-kept : (p n : ℕ) (r : Along) → char p ≡ false → Shut (opened p (times spelled (suc n) follows r))
  shut-kept p n r h =
      shut_gap (gap p) [] (taken_char spelled (char p) follows ∷ taken spelled char gap (p + 1) (times spelled n follows r))
      (subst (λ b. Shut (gather spelled (taken_char spelled b follows ∷ taken spelled char gap (p + 1) (times spelled n follows r)))) (sym h) (refl, refl))

  times-split : (k j : ℕ) (r : Along) → times spelled (k + j) follows r ≡ times spelled k follows (times spelled j follows r)
  times-split zero j r = let e : 0 + j ≡ j = omega arith in rw e refl
  times-split (suc k) j r = let e : suc k + j ≡ suc (k + j) = omega arith in rw e (ap (next [] follows) (times-split k j r))

  run-shut : (p left : ℕ) (s : Sections) → (left ≡ 0) ⊎ (char p ≡ false) → Shut (opened p (times spelled left follows (along_old spelled s)))
  run-shut p zero s h = shut-row p (along_old spelled s) (fresh-along s)
  run-shut p (suc left) s (inl e) = absurd (omega arith)
  run-shut p (suc left) s (inr e) = shut-kept p left (along_old spelled s) e

  pub run_next : (p n left : ℕ) (s : Sections) (b : Bool) → 0 < n → n ≤ left → AllAre b p n → (left - n ≡ 0) ⊎ (char (p + n) ≡ not b) →
      normal spelled (parts p (times spelled left follows (along_old spelled s))) ≡ normal spelled (run_section b n [] ∷ parts (p + n) (times spelled (left - n) follows (along_old spelled s)))
  run_next p zero left s b z l a h = absurd (omega arith)
  run_next p (suc n) left s false z l a h =
      let e : left ≡ suc n + (left - suc n) = omega arith in
      ap (λ k. normal spelled (parts p (times spelled k follows (along_old spelled s)))) e ∙
      (ap (λ r. normal spelled (parts p r)) (times-split (suc n) (left - suc n) (along_old spelled s)) ∙
      kept-run (suc n) p (times spelled (left - suc n) follows (along_old spelled s)) a)
  run_next p (suc n) left s true z l a h =
      let e : left ≡ suc n + (left - suc n) = omega arith in
      ap (λ k. normal spelled (parts p (times spelled k follows (along_old spelled s)))) e ∙
      (ap (λ r. normal spelled (parts p r)) (times-split (suc n) (left - suc n) (along_old spelled s)) ∙
      cut-run n p (times spelled (left - suc n) follows (along_old spelled s)) a (run-shut (p + suc n) (left - suc n) s h))

  pub run_first : (p n left : ℕ) (t : Chars) (s : Sections) (b : Bool) → 0 < n → n ≤ suc left → AllAre b p n → (suc left - n ≡ 0) ⊎ (char (p + n) ≡ not b) →
      normal spelled (parts p (next [] (leaves t) (times spelled left follows (along_old spelled s)))) ≡
      normal spelled (run_section b n t ∷ parts (p + n) (times spelled (suc left - n) follows (along_old spelled s)))
  run_first p zero left t s b z l a h = absurd (omega arith)
  run_first p (suc n) left t s false z l a h =
      let e : left ≡ n + (suc left - suc n) = omega arith in
      ap (λ k. normal spelled (parts p (next [] (leaves t) (times spelled k follows (along_old spelled s))))) e ∙
      (ap (λ r. normal spelled (parts p (next [] (leaves t) r))) (times-split n (suc left - suc n) (along_old spelled s)) ∙
      kept-first n p t (times spelled (suc left - suc n) follows (along_old spelled s)) a)
  run_first p (suc n) left t s true z l a h =
      let e : left ≡ n + (suc left - suc n) = omega arith in
      ap (λ k. normal spelled (parts p (next [] (leaves t) (times spelled k follows (along_old spelled s))))) e ∙
      (ap (λ r. normal spelled (parts p (next [] (leaves t) r))) (times-split n (suc left - suc n) (along_old spelled s)) ∙
      cut-first n p t (times spelled (suc left - suc n) follows (along_old spelled s)) a (run-shut (p + suc n) (suc left - suc n) s h))

  -- a pure insertion
  insertion_gap : (b : Bool) (t g : Chars) (ps : List (Piece Chars)) →
      normal spelled (closed spelled (gather spelled (cond b (single (Replace 0 (t ++ g)) ∷ []) [] ++ ps))) ≡
      normal spelled (cond b (Replace 0 t ∷ []) [] ++ closed spelled (gather spelled (cond b (single (Replace 0 g) ∷ []) [] ++ ps)))
  insertion_gap false t g ps = refl
  insertion_gap true [] g ps = refl
  insertion_gap true (c ∷ t) [] ps = ap (λ u. normal spelled (closed spelled (gather spelled (single (Replace 0 (c ∷ u)) ∷ ps)))) (append-nil t)
  insertion_gap true (c ∷ t) (d ∷ g) ps =
      put-put spelled spelled_laws (Replace 0 (c ∷ t)) (Replace 0 (d ∷ g)) (normal spelled (closed spelled (gather spelled ps))) refl (in_order-normal spelled spelled_laws (closed spelled (gather spelled ps)))

  pub insertion-run : (p : ℕ) (t : Chars) (r : Along) → normal spelled (parts p (in_front spelled t r)) ≡ normal spelled (cond (gap p) (Replace 0 t ∷ []) [] ++ parts p r)
  insertion-run p t (next g y r) = insertion_gap (gap p) t g (taken_char spelled (char p) y ∷ taken spelled char gap (p + 1) r)
  insertion-run p t (last g) =
      ap (λ ps. normal spelled (closed spelled (gather spelled ps))) (sym (append-nil (cond (gap p) (single (Replace 0 (t ++ g)) ∷ []) []))) ∙
      (insertion_gap (gap p) t g [] ∙
      ap (λ ps. normal spelled (cond (gap p) (Replace 0 t ∷ []) [] ++ closed spelled (gather spelled ps))) (append-nil (cond (gap p) (single (Replace 0 g) ∷ []) [])))

-- one section put after what is filtered
pub filter-push : (old new f g all : Sections) (y : Section Chars) → new ≡ normal spelled (old ++ y ∷ []) → normal spelled f ≡ normal spelled (y ∷ g) → normal spelled (old ++ f) ≡ all → normal spelled (new ++ g) ≡ all
filter-push old new f g all y e h k =
    rw (e, normal-prefix spelled spelled_laws (old ++ y ∷ []) g, append_assoc old (y ∷ []) g) (sym (normal-back spelled spelled_laws old f (y ∷ g) h) ∙ k)

old_append : (s t : Sections) → old_size (s ++ t) ≡ old_size s + old_size t
old_append [] t = omega arith
old_append (x ∷ s) t = omega (arith, old_append s t)

new_append : (s t : Sections) → new_size spelled (s ++ t) ≡ new_size spelled s + new_size spelled t
new_append [] t = omega arith
new_append (x ∷ s) t = omega (arith, new_append s t)

pub record Fits (old : Sections) (y : Section Chars) (all : Sections) : Type 0 where
  pub old_fits : old_size old + old_of y ≤ old_size all
  pub new_fits : new_size spelled old + new_of spelled y ≤ new_size spelled all

-- and it fits where the whole does
pub filter-fits : (old f g all : Sections) (y : Section Chars) → normal spelled f ≡ normal spelled (y ∷ g) → normal spelled (old ++ f) ≡ all → Fits old y all
filter-fits old f g all y h k =
    let w : normal spelled (old ++ y ∷ g) ≡ all = sym (normal-back spelled spelled_laws old f (y ∷ g) h) ∙ k in
    record {
      old_fits = omega (arith, ap old_size w, old_size-normal spelled (old ++ y ∷ g), old_append old (y ∷ g));
      new_fits = omega (arith, ap (new_size spelled) w, new_size-normal spelled spelled_laws (old ++ y ∷ g), new_append old (y ∷ g));
    }
