-- Groups whose ranges begin before added ones or after them, and an update without a filter.
use Rattle.std.proofs.Common.{◌≡◌, ℕ, suc, ◌+◌, ◌-◌, ◌<◌, ◌≤◌, Bool, true, false, ◌||◌, ◌&&◌, List, [], ◌∷◌, ◌++◌, length, map, filter, Some, None, refl, sym, ap, subst, ◌∙◌, append_assoc, arith}
use Rattle.std.proofs.lemmas.Bool.Decides.{nat_tests}
use Rattle.std.proofs.lemmas.List.{append-nil, length-append}
use Rattle.std.specs.Prelude.{nat_lt, ◌==◌, slice_get}
use Rattle.stable_order.specs.StableSort.{stable_sort}
use Rattle.stable_order.proofs.StableSort.{NoneBelow, Rises, Rises-stable_sort, length-stable_sort, stable_sort-append, stable_sort-risen}
use Rattle.range_set.specs.Rules.{RangeRules}
use Rattle.range_set.specs.Order.{AllForward, before, first_fault}
use Rattle.range_set.specs.Ranking.{before-order}
use Rattle.range_set.specs.Updating.{updated}
use Rattle.range_set.specs.PrivateChunks.{AreGroups, Ascend, BeginBy, first_start, flat, group_content, shift, spread}
use Rattle.range_set.specs.PrivateUpdates.{AreOpened, AreSharedBefore, BeginPast, BeginUnder}
use Rattle.range_set.specs.declared.ranged.Ranged.{Ranged}
use Rattle.range_set.specs.declared.chunk.Placed.{Placed}
use Rattle.range_set.specs.declared.group.PlacedGroup.{PlacedGroup}
use Rattle.range_set.proofs.Chunks.{ascend-prefix, begin_by-next, flat-append}
use Rattle.range_set.proofs.Groups.{are_spread, flat-spread, flat_forward}
use Rattle.range_set.proofs.RangeOrder.{forward-append, forward-no_fault, no_fault_from, rises-no_fault}
use Rattle.range_set.proofs.ThreeParts.{have_parts}
use Rattle.range_set.proofs.Under.{any_both, rises_across, rises_ascend, rises_left, rises_right}
use Rattle.range_set.proofs.Updates.{BeforeEach, Below, EachBefore, below_append, none_after, sort-swapped}

not_before : (a b : ℕ) (c : Bool) → b < a → (nat_lt a b || (a == b && c)) ≡ false
not_before a b c l = grind (arith, nat_tests)

is_before : (a b : ℕ) (c : Bool) → a < b → (nat_lt a b || (a == b && c)) ≡ true
is_before a b c l = grind (arith, nat_tests)

module _ {T : Type 0} where
  -- the start of the last range
  abbrev pub last_start : List (Ranged T) → ℕ
  last_start [] = 0
  last_start (r ∷ []) = r.from
  last_start (r ∷ q ∷ rs) = last_start (q ∷ rs)

  pub under_append : (place : ℕ) (xs ys : List (Ranged T)) → BeginUnder place xs → BeginUnder place ys → BeginUnder place (xs ++ ys)
  under_append place [] ys h k = k
  under_append place (x ∷ xs) ys h k = (h.0, under_append place xs ys h.1 k)

  pub under_less : (n place : ℕ) (rs : List (Ranged T)) → BeginBy n rs → n < place → BeginUnder place rs
  under_less n place [] h l = tt
  under_less n place (r ∷ rs) h l = (omega (arith, h.0, l), under_less n place rs h.1 l)

  past_from : (n place : ℕ) (rs : List (Ranged T)) → place < n → Ascend n rs → BeginPast place rs
  past_from n place [] l h = tt
  past_from n place (r ∷ rs) l h = (omega (arith, l, h.0), past_from r.from place rs (omega (arith, l, h.0)) h.1)

  pub past_hull : (n start place : ℕ) (rs later : List (Ranged T)) → 1 ≤ length rs → place < start → Ascend n (map (shift start) rs ++ later) → BeginPast place (map (shift start) rs ++ later)
  past_hull n start place [] later some l h = absurd (omega arith)
  past_hull n start place (r ∷ rs) later some l h =
      let k : place < r.from + start = omega (arith, l) in
      (k, past_from (r.from + start) place (map (shift start) rs ++ later) k h.1)

  pub first_of : (rs : List (Ranged T)) (r : Ranged T) → slice_get rs 0 ≡ Some r → first_start rs ≡ r.from
  first_of [] r h = cc
  first_of (q ∷ rs) r h = let same : q ≡ r = cc in ap (λ (x : Ranged T). x.from) same

  pub last_of : (rs : List (Ranged T)) (r : Ranged T) → slice_get rs (length rs - 1) ≡ Some r → last_start rs ≡ r.from
  last_of [] r h = cc
  last_of (q ∷ []) r h = let same : q ≡ r = cc in ap (λ (x : Ranged T). x.from) same
  last_of (q ∷ p ∷ rs) r h =
      let n : length (q ∷ p ∷ rs) - 1 ≡ suc (length (p ∷ rs) - 1) = omega arith in
      last_of (p ∷ rs) r (ap (slice_get (q ∷ p ∷ rs)) (sym n) ∙ h)

  filter_all : (xs : List (Ranged T)) → filter (λ _. true) xs ≡ xs
  filter_all [] = refl
  filter_all (x ∷ xs) = ap (λ ys. x ∷ ys) (filter_all xs)

  -- the ranges of a list in order begin where the first does or after, and where the last does or before
  begin_from : (n : ℕ) (rs : List (Ranged T)) → Ascend n rs → Ascend (first_start rs) rs
  begin_from n [] h = tt
  begin_from n (r ∷ rs) h = (omega arith, h.1)

  begin_upto : (n : ℕ) (rs : List (Ranged T)) → Ascend n rs → BeginBy (last_start rs) rs
  begin_upto n [] h = tt
  begin_upto n (r ∷ []) h = (omega arith, tt)
  begin_upto n (r ∷ q ∷ rs) h =
      let k = begin_upto r.from (q ∷ rs) h.1 in
      (omega (arith, h.1.0, k.0), k)

module _ {T : Type 0} (rules : RangeRules T) where
  -- ranges that stand before a group begin no later than it
  pub begin_by_group : (n : ℕ) (xs : List (Ranged T)) (g : PlacedGroup T) (gs : List (PlacedGroup T)) → 1 ≤ length (flat (group_content g).chunks) → first_start (flat (group_content g).chunks) ≡ 0
      → Ascend n (xs ++ flat (spread (g ∷ gs))) → BeginBy g.start xs
  begin_by_group n xs g gs some f asc = at (flat (group_content g).chunks) some f (subst (λ rs. Ascend n (xs ++ rs)) (flat-spread g gs) asc)
    where
      at : (rs : List (Ranged T)) → 1 ≤ length rs → first_start rs ≡ 0 → Ascend n (xs ++ (map (shift g.start) rs ++ flat (spread gs))) → BeginBy g.start xs
      at [] some f a = absurd (omega arith)
      at (r ∷ rs) some f a =
          let e : r.from + g.start ≡ g.start = omega (arith, f) in
          subst (λ k. BeginBy k xs) e (begin_by-next n xs (shift g.start r) (map (shift g.start) rs ++ flat (spread gs)) a)

  -- added ranges don't belong before one that ends before they begin
  none_under : (r : Ranged T) (n : ℕ) (add : List (Ranged T)) → r.from < n → Ascend n add → NoneBelow (before rules) r add
  none_under r n [] l a = tt
  none_under r n (x ∷ add) l a = (not_before x.from r.from _ (omega (arith, l, a.0)), none_under r x.from add (omega (arith, l, a.0)) a.1)

  all_under : (rs add : List (Ranged T)) (n : ℕ) → BeginUnder n rs → Ascend n add → Below rules rs add
  all_under [] add n u a = tt
  all_under (r ∷ rs) add n u a = (none_under r n add u.0 a, all_under rs add n u.1 a)

  -- they belong before one that begins after they do
  before_each : (x : Ranged T) (place : ℕ) (rs : List (Ranged T)) → x.from ≤ place → BeginPast place rs → BeforeEach rules x rs
  before_each x place [] l h = tt
  before_each x place (r ∷ rs) l h = (is_before x.from r.from _ (omega (arith, l, h.0)), before_each x place rs l h.1)

  each_before : (add rs : List (Ranged T)) (place : ℕ) → BeginBy place add → BeginPast place rs → EachBefore rules add rs
  each_before [] rs place b h = tt
  each_before (x ∷ add) rs place b h = (before_each x place rs b.0 h, each_before add rs place b.1 h)

  -- an update without a filter, of which the first ranges and the last keep their places
  pub updated_between : (xs ms ys add : List (Ranged T)) → Rises (before rules) (xs ++ (ms ++ ys)) → Rises (before rules) add → BeginUnder (first_start add) xs → BeginPast (last_start add) ys
      → updated rules (λ _. true) (xs ++ (ms ++ ys)) add ≡ xs ++ (updated rules (λ _. true) ms add ++ ys)
  updated_between xs ms ys add h k u p =
      let less = before rules in
      let order = before-order rules in
      let asc = rises_ascend rules add k in
      let others = rises_right rules xs (ms ++ ys) h in
      let rest = (ms ++ ys) ++ add in
      let xs_below : Below rules xs rest = any_both rules xs (ms ++ ys) add (rises_across rules xs (ms ++ ys) h) (all_under xs add (first_start add) u (begin_from 0 add asc)) in
      let each = each_before add ys (last_start add) (begin_upto 0 add asc) p in
      let both : Below rules (ms ++ add) ys = below_append rules ms add ys (rises_across rules ms ys others) (none_after rules add ys each) in
      let swapped = sort-swapped rules ms add ys [] each in
      ap (λ zs. stable_sort less (zs ++ add)) (filter_all (xs ++ (ms ++ ys)))
      ∙ (ap (stable_sort less) (append_assoc xs (ms ++ ys) add)
      ∙ (stable_sort-append less order xs rest xs_below
      ∙ (ap (λ zs. zs ++ stable_sort less rest) (stable_sort-risen less order xs (rises_left rules xs (ms ++ ys) h))
      ∙ ap (λ zs. xs ++ zs)
      (ap (stable_sort less) (append_assoc ms ys add ∙ ap (λ zs. ms ++ (ys ++ zs)) (sym (append-nil add)))
      ∙ (swapped
      ∙ (ap (λ zs. stable_sort less ((ms ++ add) ++ zs)) (append-nil ys)
      ∙ (stable_sort-append less order (ms ++ add) ys both
      ∙ (ap (λ zs. stable_sort less (ms ++ add) ++ zs) (stable_sort-risen less order ys (rises_right rules ms ys others))
      ∙ ap (λ zs. stable_sort less (zs ++ add) ++ ys) (sym (filter_all ms))))))))))

  length_updated : (ms add : List (Ranged T)) → length (updated rules (λ _. true) ms add) ≡ length ms + length add
  length_updated ms add = length-stable_sort (before rules) (filter (λ _. true) ms ++ add) ∙ (ap (λ zs. length (zs ++ add)) (filter_all ms) ∙ length-append ms add)

  -- what such an update gives of ranges in three parts
  pub record AddParts (rs xs ys zs add : List (Ranged T)) : Type 0 where
    pub goes : updated rules (λ _. true) rs add ≡ xs ++ (updated rules (λ _. true) ys add ++ zs)
    pub order : Ascend 0 (xs ++ updated rules (λ _. true) ys add)
    pub none : first_fault rules (xs ++ (updated rules (λ _. true) ys add ++ zs)) ≡ None
    pub count : length (updated rules (λ _. true) ys add) ≡ length ys + length add

  pub add_parts : (rs xs ys zs add : List (Ranged T)) → rs ≡ xs ++ (ys ++ zs) → Rises (before rules) (xs ++ (ys ++ zs)) → AllForward xs → AllForward zs → first_fault rules add ≡ None
      → first_fault rules (updated rules (λ _. true) ys add) ≡ None → BeginUnder (first_start add) xs → BeginPast (last_start add) zs → AddParts rs xs ys zs add
  add_parts rs xs ys zs add is h first last k n u p =
      let less = before rules in
      let m = updated rules (λ _. true) ys add in
      let goes = ap (λ qs. updated rules (λ _. true) qs add) is ∙ updated_between xs ys zs add h (rises-no_fault rules add k) u p in
      let rises = subst (Rises less) goes (Rises-stable_sort less (before-order rules) (filter (λ _. true) rs ++ add)) in
      record {
        goes = goes;
        order = ascend-prefix 0 (xs ++ m) zs (rises_ascend rules ((xs ++ m) ++ zs) (subst (Rises less) (sym (append_assoc xs m zs)) rises));
        none = no_fault_from rules 0 None (xs ++ (m ++ zs)) rises tt (forward-append xs (m ++ zs) first (forward-append m zs (forward-no_fault rules 0 None m n) last));
        count = length_updated ys add;
      }

  -- groups of which the first are shared, and those after them opened, stand in order
  pub opened_order : (before after : ℕ) (gs rest left : List (PlacedGroup T)) (old new chunks : List (Placed T)) → AreSharedBefore before gs rest old new → AreOpened rules after rest chunks left
      → AreGroups rules gs → first_fault rules (flat (spread gs)) ≡ None → first_fault rules (flat chunks) ≡ None
  opened_order before after gs rest left old new chunks s o h n = ap (first_fault rules) o.ranges ∙ (have_parts rules gs s.taken o.taken left (s.is ∙ ap (λ hs. s.taken ++ hs) o.is) h n).order

  -- what an update gives that changes the chunks of groups after shared ones and before those that are left
  pub record IsAdded (gs left : List (PlacedGroup T)) (shared made : List (Placed T)) (add : List (Ranged T)) : Type 0 where
    pub goes : updated rules (λ _. true) (flat (spread gs)) add ≡ flat ((shared ++ made) ++ spread left)
    pub order : Ascend 0 (flat (shared ++ made))
    pub none : first_fault rules (flat ((shared ++ made) ++ spread left)) ≡ None
    pub room : length (flat shared) + length (flat made) + length (flat (spread left)) ≡ length (flat (spread gs)) + length add

  pub add_opened : (gs rest left : List (PlacedGroup T)) (shared chunks made : List (Placed T)) (add : List (Ranged T)) (first last : Ranged T)
      → AreSharedBefore first.from gs rest [] shared → AreOpened rules last.from rest chunks left → AreGroups rules gs → first_fault rules (flat (spread gs)) ≡ None
      → first_fault rules add ≡ None → slice_get add 0 ≡ Some first → slice_get add (length add - 1) ≡ Some last
      → flat made ≡ updated rules (λ _. true) (flat chunks) add → first_fault rules (flat made) ≡ None → IsAdded gs left shared made add
  add_opened gs rest left shared chunks made add first last s o h n k f l e m =
      let x = flat (spread s.taken) in
      let y = flat (spread o.taken) in
      let z = flat (spread left) in
      let middle = updated rules (λ _. true) y add in
      let parts = have_parts rules gs s.taken o.taken left (s.is ∙ ap (λ hs. s.taken ++ hs) o.is) h n in
      let is : flat made ≡ middle = e ∙ ap (λ rs. updated rules (λ _. true) rs add) o.ranges in
      let taken_forward = flat_forward rules (spread s.taken) (are_spread rules s.taken parts.first) in
      let left_forward = flat_forward rules (spread left) (are_spread rules left parts.third) in
      let added = add_parts (flat (spread gs)) x y z add parts.is parts.rises taken_forward left_forward k (ap (first_fault rules) (sym is) ∙ m)
      (subst (λ place. BeginUnder place x) (sym (first_of add first f)) s.before)
      (subst (λ place. BeginPast place z) (sym (last_of add last l)) o.after) in
      let kept : flat shared ≡ x = ap flat s.chunks in
      let both : flat (shared ++ made) ≡ x ++ middle = flat-append shared made ∙ (ap (λ rs. rs ++ flat made) kept ∙ ap (λ rs. x ++ rs) is) in
      let all : flat ((shared ++ made) ++ spread left) ≡ x ++ (middle ++ z) = flat-append (shared ++ made) (spread left) ∙ (ap (λ rs. rs ++ z) both ∙ append_assoc x middle z) in
      record {
        goes = added.goes ∙ sym all;
        order = subst (Ascend 0) (sym both) added.order;
        none = ap (first_fault rules) all ∙ added.none;
        room = let a = ap length kept in let b = ap length is ∙ added.count in let c = parts.room in omega (arith, a, b, c);
      }

  -- a list in order to which nothing is added
  pub updated_none : (rs : List (Ranged T)) → first_fault rules rs ≡ None → updated rules (λ _. true) rs [] ≡ rs
  updated_none rs h =
      ap (stable_sort (before rules)) (append-nil (filter (λ _. true) rs) ∙ filter_all rs) ∙ stable_sort-risen (before rules) (before-order rules) rs (rises-no_fault rules rs h)

pub no_ranges : {T : Type 0} (rs : List (Ranged T)) (n : ℕ) → (n == 0) ≡ true → n ≡ length rs → rs ≡ []
no_ranges [] n h e = refl
no_ranges (r ∷ rs) n h e = absurd (zero_only (length rs) n h e)
  where
    zero_only : (k n : ℕ) → (n == 0) ≡ true → n ≡ suc k → ⊥
    zero_only k n h e = grind (arith, nat_tests)
