use Rattle.std.proofs.Common.{◌≡◌, ◌<◌, ◌+◌, ◌-◌, ◌∙◌, ◌⊎◌, ℕ, List, [], ◌∷◌, ◌++◌, Bool, true, false, cond, eqb, Option, None, Some, is_some, length, map, slice_get, take, flat_map, refl, sym, ap, subst, ⊎_elim, inl, inr, arith, eq-eqb, append_assoc, length-append}
use Rattle.std.proofs.lemmas.Bool.{cases_Bool, eqb-true, true≢false}
use Rattle.std.proofs.lemmas.List.{append-nil}
use Rattle.std.proofs.Math.Seq.{take-append_seam}
use Rattle.std.proofs.lemmas.List.Folds.{find-append}
use Rattle.std.specs.List.{AllByRecursion}
use Rattle.ext_tree.specs.declared.precedence.Precedence.TheVariants as precedence
use Rattle.ext_tree.specs.declared.precedence.Precedence.{Precedence}
use Rattle.ext_tree.specs.declared.node.Node.{Node}
use Rattle.ext_tree.specs.declared.node.Node.TheVariants.{Group, Prec, Slot, Input, Field, Init}
use Rattle.ext_tree.specs.declared.shared_list.SharedList.{SharedList}
use Rattle.ext_tree.specs.declared.shared_list.SharedList.TheVariants.{Enabled, Provided}
use Rattle.ext_tree.specs.Shared.{list_in, list_after, is_walked_after}
use Rattle.ext_tree.specs.declared.visit.Visit.{Visit}
use Rattle.ext_tree.specs.Tree.{Tree, IsTree, IsOlder, listed}
use Rattle.ext_tree.specs.declared.task.Task.{Task}
use Rattle.ext_tree.specs.declared.task.Task.TheVariants.{Enter, Leave}
use Rattle.ext_tree.specs.Unfolding.{Occurrence, compartment_of, is_slot_of, stands_on, is_blocked, following_in, following, precedence_in, precedence_below, path_below, below, followed_by, depth_of, unfold_at, root_at, unfolding_of}
use Rattle.ext_tree.specs.Refusal.{Refusal, first_met, refused, refused_as, duplicate, meet, meet_as, refusal, refusal_after, met_after, slots_met}
use Rattle.ext_tree.specs.Flat.{leaf, leaves}
use Rattle.ext_tree.specs.Taking.{flat}
use Rattle.id_lists.specs.Members.{In}
use Rattle.ext_tree.specs.Walking.{visit, visit_below, IsFirst, LeadsTo, IsPath, IsCounted, AreBelowDone, path_after, CanGoOn, occurrence, ahead, IsUnderWay, to_leave, to_do, enter_below, entered}
use Rattle.ext_tree.specs.Walks.{enter_at}
use Rattle.ext_tree.proofs.Enough.{weaker, lower, unfold_once, IsLower}
use Rattle.ext_tree.proofs.Done.{all-in, in-all, path-below, known, IsKnown}
use Rattle.ext_tree.proofs.Skip.{IsSpent, spent, skip-refusal, skip-met, leaves-spent, flat-skip, leaves-append, some_injective}

-- what is met stays met
abbrev Keeps : Tree → List ℕ → List ℕ → Type 0
Keeps t met more = (c s : ℕ) → first_met t c met ≡ Some s → first_met t c more ≡ Some s

abbrev Within : {X : Type 0} → List X → List X → Type 0
Within {X} xs ys = (x : X) → In x xs → In x ys

within-cons : {X : Type 0} (xs ys : List X) (v : X) → Within xs ys → Within (v ∷ xs) (v ∷ ys)
within-cons xs ys v h x i = ⊎_elim (λ e. inl e) (λ j. inr (h x j)) i

in-end : {X : Type 0} (xs : List X) (ys : List X) (x : X) → In x ys → In x (xs ++ ys)
in-end [] ys x i = i
in-end (y ∷ xs) ys x i = inr (in-end xs ys x i)

in-more : {X : Type 0} (xs : List X) (ys : List X) (x : X) → In x xs → In x (xs ++ ys)
in-more [] ys x i = absurd i
in-more (y ∷ xs) ys x i = ⊎_elim (λ e. inl e) (λ j. inr (in-more xs ys x j)) i

module _ (t : Tree) (met more : List ℕ) (vs ws : List Visit) (keeps : Keeps t met more) (within : Within vs ws) where
  counted-more : (v : Visit) → IsCounted t met vs v → IsCounted t more ws v
  counted-more v h = record { slot = λ c e. keeps c v.node (h.slot c e); leaf = λ e. within v (h.leaf e) }

  path-more : (path : List ℕ) (n : ℕ) → IsPath t met path n → IsPath t more path n
  path-more path n h = weaker (LeadsTo t met n) (LeadsTo t more n) (λ s l. (λ c e. keeps c s (l.0 c e), l.1)) path h

  can-more : (ts : List Task) (done dones : List Visit) (path : List ℕ) → Within done dones → CanGoOn t met vs done path ts → CanGoOn t more ws dones path ts
  can-more [] done dones path sub h = tt
  can-more (Enter v ∷ ts) done dones path sub h = (h.0, path-more path v.node h.1, can-more ts (v ∷ done) (v ∷ dones) path (within-cons done dones v sub) h.2)
  can-more (Leave v ∷ ts) done dones path sub h = (
    counted-more v h.0,
    weaker (λ m. In (visit_below t v m) done) (λ m. In (visit_below t v m) dones) (λ m i. sub (visit_below t v m) i) (following t v.node) h.1,
    can-more ts (v ∷ done) (v ∷ dones) (path_after t v.node path) (within-cons done dones v sub) h.2,
  )

-- leaves of the same shared list are followed by the same nodes, at the same precedence
abbrev Following : Tree → SharedList → List ℕ
Following t (Enabled facet) = listed t.links.enabled facet
Following t (Provided field p) = listed t.links.provided field

abbrev precedence_after : SharedList → Precedence
precedence_after (Enabled facet) = precedence.Default
precedence_after (Provided field p) = p

list-is : (t : Tree) (p : Precedence) (k : Option Node) (x : SharedList) → list_in p k ≡ Some x → (following_in t k ≡ Following t x) × (precedence_in p k ≡ precedence_after x)
list-is t p None x e = cc
list-is t p (Some (Group nodes)) x e = cc
list-is t p (Some (Prec q node)) x e = cc
list-is t p (Some (Slot c own)) x e = cc
list-is t p (Some (Input f)) x e = subst (λ (y : SharedList). (listed t.links.enabled f ≡ Following t y) × (precedence.Default ≡ precedence_after y)) (some_injective e) (refl, refl)
list-is t p (Some (Field f)) x e = subst (λ (y : SharedList). (listed t.links.provided f ≡ Following t y) × (p ≡ precedence_after y)) (some_injective e) (refl, refl)
list-is t p (Some (Init f)) x e = subst (λ (y : SharedList). (listed t.links.provided f ≡ Following t y) × (p ≡ precedence_after y)) (some_injective e) (refl, refl)

same-below : (t : Tree) (v w : Visit) (x : SharedList) → list_after t v ≡ Some x → list_after t w ≡ Some x → (done : List Visit) → AreBelowDone t done v → AreBelowDone t done w
same-below t v w x is iw done h =
    let a = list-is t v.precedence (slice_get t.nodes v.node) x is in
    let b = list-is t w.precedence (slice_get t.nodes w.node) x iw in
    let nodes : following t v.node ≡ following t w.node = a.0 ∙ sym b.0 in
    let level : precedence_below t v.node v.precedence ≡ precedence_below t w.node w.precedence = a.1 ∙ sym b.1 in
    subst (λ (ms : List ℕ). AllByRecursion (λ m. In (visit m (precedence_below t w.node w.precedence)) done) ms) nodes
    (subst (λ (p : Precedence). AllByRecursion (λ m. In (visit m p) done) (following t v.node)) level h)

below-more : (t : Tree) (d : Visit) (done : List Visit) (v : Visit) → AreBelowDone t done v → AreBelowDone t (d ∷ done) v
below-more t d done v h = weaker (λ m. In (visit_below t v m) done) (λ m. In (visit_below t v m) (d ∷ done)) (λ m i. inr i) (following t v.node) h

none≢some : {X : Type 0} (x : X) → Some x ≡ None → ⊥
none≢some x e = cc

-- a choice that is None took the second
cond-none : {X : Type 0} (b : Bool) (x : X) (o : Option X) → cond b (Some x) o ≡ None → (b ≡ false) × (o ≡ None)
cond-none true x o h = absurd (none≢some x h)
cond-none false x o h = (refl, h)

-- what it takes that a node is entered
not-blocked : (t : Tree) (met : List ℕ) (n : ℕ) (path : List ℕ) (k : Option ℕ) → refused_as t met n path k ≡ None → stands_on t path k ≡ false
not-blocked t met n path None h = refl
not-blocked t met n path (Some c) h = (cond-none (stands_on t path (Some c)) _ (duplicate c n (first_met t c met)) h).0

same-slot : (c n : ℕ) (k : Option ℕ) → duplicate c n k ≡ None → (k ≡ None) ⊎ (k ≡ Some n)
same-slot c n None h = inl refl
same-slot c n (Some m) h =
    ⊎_elim (λ e. inr (ap (λ (x : ℕ). Some x) (eqb-true m n e)))
    (λ e. absurd (differs c n m e h))
    (cases_Bool (eqb m n))
  where
    differs : (c n m : ℕ) → eqb m n ≡ false → duplicate c n (Some m) ≡ None → ⊥
    differs c n m e h = none≢some _ (rw e at h)

is-slot : (t : Tree) (c n : ℕ) → compartment_of t n ≡ Some c → is_slot_of t c n ≡ true
is-slot t c n e = let r : eqb c c ≡ true = eq-eqb c c refl in rw e r

module _ (t : Tree) (met : List ℕ) (n : ℕ) (path : List ℕ) where
  -- the first slot nodes stay, and the new one is first
  meet-keeps : (k : Option ℕ) → Keeps t met (meet_as t met n k)
  meet-keeps None c s e = e
  meet-keeps (Some d) c s e =
      ⊎_elim (λ q. rw q e) (λ q. rw q (rw (find-append (is_slot_of t c) met (n ∷ []), e) refl)) (cases_Bool (is_some (first_met t d met)))

  meet-first : (k : Option ℕ) → compartment_of t n ≡ k → refused_as t met n path k ≡ None → IsFirst t (meet_as t met n k) n
  meet-first None e h c is = absurd (none≢some c (sym is ∙ e))
  meet-first (Some d) e h c is =
      let same : c ≡ d = some_injective (sym is ∙ e) in
      let new = (cond-none (stands_on t path (Some d)) _ (duplicate d n (first_met t d met)) h).1 in
      let slot : is_slot_of t d n ≡ true = is-slot t d n e in
      subst (λ (x : ℕ). first_met t x (meet_as t met n (Some d)) ≡ Some n) (sym same)
      (⊎_elim
      (λ (q : first_met t d met ≡ None). rw q (rw (find-append (is_slot_of t d) met (n ∷ []), q, slot) refl))
      (λ (q : first_met t d met ≡ Some n). rw q q)
      (same-slot d n (first_met t d met) new))

-- the path is as before when a node that was entered is left
path-again : (t : Tree) (n : ℕ) (path : List ℕ) → path_after t n (path_below t n path) ≡ path
path-again t n path =
    ⊎_elim
    (λ e. rw e (rw length-append at-end))
    (λ e. rw e refl)
    (cases_Bool (is_some (compartment_of t n)))
  where
    at-end : take (length path + length (n ∷ []) - 1) (path ++ n ∷ []) ≡ path
    at-end = let e : length path + length (n ∷ []) - 1 ≡ length path = omega arith in rw e (take-append_seam path (n ∷ []))

module _ (t : Tree) (v : Visit) (path : List ℕ) where
  -- what is before when the nodes below are to be entered
  before-entered : (ms : List ℕ) (tail : List Task) → ahead t (path_below t v.node path) (map (enter_below t v) ms ++ tail)
      ≡ flat_map (unfold_at t) (map (below t (occurrence v path)) ms) ++ ahead t (path_below t v.node path) tail
  before-entered [] tail = refl
  before-entered (m ∷ ms) tail = let ih = before-entered ms tail in rw ih (sym (append_assoc (unfold_at t (below t (occurrence v path) m)) _ _))

  to_leave-entered : (ms : List ℕ) (tail : List Task) → to_leave (map (enter_below t v) ms ++ tail) ≡ to_leave tail
  to_leave-entered [] tail = refl
  to_leave-entered (m ∷ ms) tail = to_leave-entered ms tail

  module _ (met : List ℕ) (vs : List Visit) (tail : List Task) (under : List ℕ) where
    -- the nodes below can be entered where what follows can be done after them
    can-enter : (ms : List ℕ) (done : List Visit) → AllByRecursion (λ m. (m < length t.nodes) × IsPath t met under m) ms
        → ((more : List Visit) → Within done more → AllByRecursion (λ m. In (visit_below t v m) more) ms → CanGoOn t met vs more under tail)
        → CanGoOn t met vs done under (map (enter_below t v) ms ++ tail)
    can-enter [] done ok then = then done (λ x i. i) tt
    can-enter (m ∷ ms) done ok then = (
      ok.0.0,
      ok.0.1,
      can-enter ms (visit_below t v m ∷ done) ok.1
          (λ more sub all. then more (λ x i. sub x (inr i)) (sub (visit_below t v m) (inl refl), all)),
    )

-- an occurrence that is followed
all-unmap : {X Y : Type 0} (f : X → Y) (P : Y → Type 0) (xs : List X) → AllByRecursion P (map f xs) → AllByRecursion (λ x. P (f x)) xs
all-unmap f P [] h = tt
all-unmap f P (x ∷ xs) h = (h.0, all-unmap f P xs h.1)

module _ (t : Tree) (tree : IsTree t) (os : List Occurrence) (v : Visit) (ts : List Task) (path met : List ℕ) (vs : List Visit) (memo : Visit → Bool) (lists : SharedList → Bool) where
  followed : refused t met (occurrence v path) ≡ None → followed_by t (occurrence v path) ≡ map (below t (occurrence v path)) (following t v.node)
  followed h = let off : is_blocked t v.node path ≡ false = not-blocked t met v.node path (compartment_of t v.node) h in rw off refl

  opened : IsUnderWay t os (Enter v ∷ ts) path met vs memo lists → ahead t path (Enter v ∷ ts) ≡ occurrence v path ∷ (flat_map (unfold_at t) (followed_by t (occurrence v path)) ++ ahead t path ts)
  opened u = rw (unfold_once t tree (occurrence v path) u.can_go_on.0) refl

  -- a node that was walked at its precedence is passed over
  pub pass-done : (u : IsUnderWay t os (Enter v ∷ ts) path met vs memo lists) → In v u.done → IsUnderWay t os ts path met vs memo lists
  pass-done u there =
      let o : Occurrence = occurrence v path in
      let all : AllByRecursion (IsSpent t met vs) (unfold_at t o) =
      weaker (IsKnown t met u.done) (IsSpent t met vs) (spent t met vs u.done u.closed u.counted) (unfold_at t o)
      (known t met vs u.done u.closed u.counted (depth_of t) o (there, u.can_go_on.1)) in
      record {
        done = u.done;
        closed = u.closed;
        counted = u.counted;
        walked = u.walked;
        lists_walked = u.lists_walked;
        can_go_on = can-more t met met vs vs (λ c s e. e) (λ x i. i) ts (v ∷ u.done) u.done path
            (λ x i. ⊎_elim (λ e. subst (λ (y : Visit). In y u.done) (sym e) there) (λ j. j) i) u.can_go_on.2;
        refusal_same = sym (skip-refusal t met vs (unfold_at t o) (ahead t path ts) all) ∙ u.refusal_same;
        met_same = sym (skip-met t met vs (unfold_at t o) (ahead t path ts) all) ∙ u.met_same;
        flat_same = sym (ap (λ (ws : List Visit). flat (vs ++ ws)) (leaves-append t (unfold_at t o) (ahead t path ts))
            ∙ flat-skip vs (leaves t (unfold_at t o)) (leaves t (ahead t path ts)) (leaves-spent t met vs (unfold_at t o) all)) ∙ u.flat_same;
      }

  pub pass-over : IsUnderWay t os (Enter v ∷ ts) path met vs memo lists → memo v ≡ true → IsUnderWay t os ts path met vs memo lists
  pass-over u walked = pass-done u (u.walked v walked)

  -- a refusal is the first
  pub refuses : (r : Refusal) → IsUnderWay t os (Enter v ∷ ts) path met vs memo lists → refused t met (occurrence v path) ≡ Some r → refusal t os ≡ Some r
  refuses r u h = sym u.refusal_same ∙ (rw (opened u) (rw h refl))

  -- a node is entered
  pub enters : IsUnderWay t os (Enter v ∷ ts) path met vs memo lists → refused t met (occurrence v path) ≡ None
      → IsUnderWay t os (entered t v (following t v.node) ts) (path_below t v.node path) (meet t met v.node) (vs ++ leaf t v) memo lists
  enters u h =
      let o : Occurrence = occurrence v path in
      let keeps : Keeps t met (meet t met v.node) = meet-keeps t met v.node path (compartment_of t v.node) in
      let first : IsFirst t (meet t met v.node) v.node = meet-first t met v.node path (compartment_of t v.node) refl h in
      let within : Within vs (vs ++ leaf t v) = in-more vs (leaf t v) in
      let again = path-again t v.node path in
      let counted : IsCounted t (meet t met v.node) (vs ++ leaf t v) v = record { slot = first; leaf = λ e. in-end vs (leaf t v) v (rw e (inl refl)) } in
      let rest : ahead t (path_below t v.node path) (entered t v (following t v.node) ts) ≡ flat_map (unfold_at t) (followed_by t o) ++ ahead t path ts =
      before-entered t v path (following t v.node) (Leave v ∷ ts) ∙ rw (followed h, again) refl in
      let low : AllByRecursion (λ m. IsLower t v.node path (path_below t v.node path) m) (following t v.node) =
      all-unmap (below t o) (λ c. IsLower t v.node path c.path c.node) (following t v.node) (subst (λ (cs : List Occurrence). AllByRecursion (λ c. IsLower t v.node path c.path c.node) cs) (followed h) (lower t tree o u.can_go_on.0)) in
      let up : IsPath t (meet t met v.node) path v.node = path-more t met (meet t met v.node) vs (vs ++ leaf t v) keeps within path v.node u.can_go_on.1 in
      record {
        done = u.done;
        closed = u.closed;
        counted = weaker (IsCounted t met vs) (IsCounted t (meet t met v.node) (vs ++ leaf t v)) (counted-more t met (meet t met v.node) vs (vs ++ leaf t v) keeps within) u.done u.counted;
        walked = u.walked;
        lists_walked = u.lists_walked;
        can_go_on = can-enter t v path (meet t met v.node) (vs ++ leaf t v) (Leave v ∷ ts) (path_below t v.node path) (following t v.node) u.done
            (in-all (λ m. (m < length t.nodes) × IsPath t (meet t met v.node) (path_below t v.node path) m) (following t v.node)
            (λ m i. ((all-in (λ m. IsLower t v.node path (path_below t v.node path) m) (following t v.node) low m i).0, path-below t (meet t met v.node) path v.node m up first i)))
            (λ more sub all. (
              counted,
              all,
              subst (λ (p : List ℕ). CanGoOn t (meet t met v.node) (vs ++ leaf t v) (v ∷ more) p ts) (sym again)
                  (can-more t met (meet t met v.node) vs (vs ++ leaf t v) keeps within ts (v ∷ u.done) (v ∷ more) path (within-cons u.done more v sub) u.can_go_on.2),
            ));
        refusal_same = rw rest (sym (ap (refusal_after t met) (opened u) ∙ rw h refl)) ∙ u.refusal_same;
        met_same = rw rest (sym (ap (met_after t met) (opened u))) ∙ u.met_same;
        flat_same = rw rest (rw append_assoc (sym (ap (λ (ps : List Occurrence). flat (vs ++ leaves t ps)) (opened u)))) ∙ u.flat_same;
      }

  -- each step leaves less to do
  pub less-over : IsUnderWay t os (Enter v ∷ ts) path met vs memo lists → to_do t path ts < to_do t path (Enter v ∷ ts)
  less-over u = rw (opened u) (rw length-append (omega arith))

  pub less-entered : IsUnderWay t os (Enter v ∷ ts) path met vs memo lists → refused t met (occurrence v path) ≡ None → to_do t (path_below t v.node path) (entered t v (following t v.node) ts) < to_do t path (Enter v ∷ ts)
  less-entered u h =
      let again = path-again t v.node path in
      let rest : ahead t (path_below t v.node path) (entered t v (following t v.node) ts) ≡ flat_map (unfold_at t) (followed_by t (occurrence v path)) ++ ahead t path ts =
      before-entered t v path (following t v.node) (Leave v ∷ ts) ∙ rw (followed h, again) refl in
      rw (rest, opened u, to_leave-entered t v path (following t v.node) (Leave v ∷ ts)) (omega arith)

  pub less-skipped : IsUnderWay t os (Enter v ∷ ts) path met vs memo lists → to_do t (path_below t v.node path) (entered t v [] ts) < to_do t path (Enter v ∷ ts)
  less-skipped u = let again = path-again t v.node path in rw (opened u, again) (rw length-append (omega arith))

-- a node is left, and its shared list was walked
module _ (t : Tree) (os : List Occurrence) (v : Visit) (ts : List Task) (path met : List ℕ) (vs : List Visit) (memo memos : Visit → Bool) (lists marked : SharedList → Bool) (o : Option SharedList) where
  pub leaves-node : IsUnderWay t os (Leave v ∷ ts) path met vs memo lists → ((w : Visit) → memos w ≡ true → (w ≡ v) ⊎ (memo w ≡ true)) → o ≡ list_after t v
      → ((x : SharedList) → marked x ≡ true → (Some x ≡ o) ⊎ (lists x ≡ true)) → IsUnderWay t os ts (path_after t v.node path) met vs memos marked
  leaves-node u h is k = record {
    done = v ∷ u.done;
    closed = (u.can_go_on.1, u.closed);
    counted = (u.can_go_on.0, u.counted);
    walked = λ w e. ⊎_elim (λ d. inl d) (λ d. inr (u.walked w d)) (h w e);
    lists_walked = λ w x e m. below-more t v u.done w
        (⊎_elim (λ d. same-below t v w x (sym (d ∙ is)) e u.done u.can_go_on.1) (λ d. u.lists_walked w x e d) (k x m));
    can_go_on = u.can_go_on.2;
    refusal_same = u.refusal_same;
    met_same = u.met_same;
    flat_same = u.flat_same;
  }

  pub less-left : to_do t (path_after t v.node path) ts < to_do t path (Leave v ∷ ts)
  less-left = omega arith

-- at the end all is met
pub ends : (t : Tree) (os : List Occurrence) (path met : List ℕ) (vs : List Visit) (memo : Visit → Bool) (lists : SharedList → Bool) → IsUnderWay t os [] path met vs memo lists → (refusal t os ≡ None) × (flat vs ≡ flat (leaves t os)) × (met ≡ slots_met t os)
ends t os path met vs memo lists u = (sym u.refusal_same, sym (ap flat (append-nil vs)) ∙ u.flat_same, u.met_same)

-- the roots are to be entered
roots-before : (t : Tree) (roots : List ℕ) → ahead t [] (map (enter_at precedence.Default) roots) ≡ unfolding_of t roots
roots-before t [] = refl
roots-before t (n ∷ roots) = ap (λ (os : List Occurrence). unfold_at t (root_at n) ++ os) (roots-before t roots)

roots-can : (t : Tree) (roots : List ℕ) (done : List Visit) → AllByRecursion (IsOlder (length t.nodes)) roots → CanGoOn t [] [] done [] (map (enter_at precedence.Default) roots)
roots-can t [] done h = tt
roots-can t (n ∷ roots) done h = (h.0, tt, roots-can t roots (visit n precedence.Default ∷ done) h.1)

-- at the start all is before
pub starts : (t : Tree) (roots : List ℕ) (memo : Visit → Bool) (lists : SharedList → Bool) → AllByRecursion (IsOlder (length t.nodes)) roots → ((v : Visit) → memo v ≡ false) → ((x : SharedList) → lists x ≡ false)
    → IsUnderWay t (unfolding_of t roots) (map (enter_at precedence.Default) roots) [] [] [] memo lists
starts t roots memo lists within none unmarked = record {
  done = [];
  closed = tt;
  counted = tt;
  walked = λ v e. absurd (true≢false (sym e ∙ none v));
  lists_walked = λ v x is e. absurd (true≢false (sym e ∙ unmarked x));
  can_go_on = roots-can t roots [] within;
  refusal_same = ap (refusal_after t []) (roots-before t roots);
  met_same = ap (met_after t []) (roots-before t roots);
  flat_same = ap (λ (ps : List Occurrence). flat (leaves t ps)) (roots-before t roots);
}

-- nodes that were walked are passed over
module _ (t : Tree) (tree : IsTree t) (os : List Occurrence) (v : Visit) (tail : List Task) (path met : List ℕ) (vs : List Visit) (memo : Visit → Bool) (lists : SharedList → Bool) where
  pass-all : (ms : List ℕ) (u : IsUnderWay t os (map (enter_below t v) ms ++ tail) path met vs memo lists) → AllByRecursion (λ m. In (visit_below t v m) u.done) ms → IsUnderWay t os tail path met vs memo lists
  unfolding pass-done
  pass-all [] u h = u
  pass-all (m ∷ ms) u h = pass-all ms (pass-done t tree os (visit_below t v m) (map (enter_below t v) ms ++ tail) path met vs memo lists u h.0) h.1

-- a node is entered, and its shared list is passed over where it was walked
module _ (t : Tree) (tree : IsTree t) (os : List Occurrence) (v : Visit) (ts : List Task) (path met : List ℕ) (vs : List Visit) (memo : Visit → Bool) (lists : SharedList → Bool)
    (u : IsUnderWay t os (Enter v ∷ ts) path met vs memo lists) (h : refused t met (occurrence v path) ≡ None) where
  enters-walked : (x : SharedList) → list_after t v ≡ Some x → lists x ≡ true
      → IsUnderWay t os (entered t v [] ts) (path_below t v.node path) (meet t met v.node) (vs ++ leaf t v) memo lists
  unfolding enters
  enters-walked x is walked =
      pass-all t tree os v (Leave v ∷ ts) (path_below t v.node path) (meet t met v.node) (vs ++ leaf t v) memo lists (following t v.node)
      (enters t tree os v ts path met vs memo lists u h) (u.lists_walked v x is walked)

  pub enters-next : (o : Option SharedList) → list_after t v ≡ o
      → IsUnderWay t os (entered t v (cond (is_walked_after lists o) [] (following t v.node)) ts) (path_below t v.node path) (meet t met v.node) (vs ++ leaf t v) memo lists
      × (to_do t (path_below t v.node path) (entered t v (cond (is_walked_after lists o) [] (following t v.node)) ts) < to_do t path (Enter v ∷ ts))
  enters-next None is = (enters t tree os v ts path met vs memo lists u h, less-entered t tree os v ts path met vs memo lists u h)
  enters-next (Some x) is =
      ⊎_elim
      (λ (e : lists x ≡ true). rw e (enters-walked x is e, less-skipped t tree os v ts path met vs memo lists u))
      (λ (e : lists x ≡ false). rw e (enters t tree os v ts path met vs memo lists u h, less-entered t tree os v ts path met vs memo lists u h))
      (cases_Bool (lists x))
