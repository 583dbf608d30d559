-- One step further in a walk that filters.
use Rattle.std.proofs.Common.{◌≡◌, ℕ, zero, suc, ◌+◌, ◌-◌, ◌≤◌, ◌<◌, Bool, true, false, not, cond, ◌⊎◌, inl, inr, List, [], ◌∷◌, ◌++◌, length, drop, refl, sym, ap, subst, ◌∙◌, arith, add-zero}
use Rattle.std.proofs.lemmas.Bool.{cases_lt}
use Rattle.std.proofs.lemmas.List.{drop_all}
use Rattle.change_desc.specs.declared.section.Section.{Section}
use Rattle.change_desc.specs.declared.section.Section.TheVariants.{Keep, Replace}
use Rattle.change_desc.specs.Sections.{Sections, spelled, normal}
use Rattle.change_desc.specs.Columns.{follows, times, along_old}
use Rattle.change_desc.specs.Pieces.{single, closed, gather}
use Rattle.change_desc.specs.Filter.{is_protected, is_inside}
use Rattle.change_desc.proofs.Normal.{spelled_laws, normal-normal, normal-blank, normal-back}
use Rattle.change_set.specs.declared.half.Half.{Half}
use Rattle.change_set.specs.declared.half.Half.TheVariants.{Kept, Dropped}
use Rattle.change_set.specs.Protection.{takes, takes_char, takes_place, pieced, half_from, run_section, HasRoom, taking}
use Rattle.change_set.specs.Protected.{IsRun}
use Rattle.change_set.proofs.Filtering.{Chars, AllAre, run_next, run_first, stays-run, insertion-run}

module _ (half : Half) (rs : List (ℕ × ℕ)) (len : ℕ) where
  char_takes : (p : ℕ) → takes_char (taking half rs len) p ≡ takes half (is_protected rs len p)
  char_takes p = cases half
    where
      cases : (half : Half) → takes_char (taking half rs len) p ≡ takes half (is_protected rs len p)
      cases Kept = refl
      cases Dropped = refl

  place_takes : (p : ℕ) → takes_place (taking half rs len) p ≡ takes half (is_inside rs len p)
  place_takes p = cases half
    where
      cases : (half : Half) → takes_place (taking half rs len) p ≡ takes half (is_inside rs len p)
      cases Kept = refl
      cases Dropped = refl

  takes-not : (b : Bool) → takes half (not b) ≡ not (takes half b)
  takes-not b = cases half b
    where
      cases : (half : Half) (b : Bool) → takes half (not b) ≡ not (takes half b)
      cases Kept true = refl
      cases Kept false = refl
      cases Dropped b = refl

  run_alike : (from to end : ℕ) (b : Bool) → IsRun rs len from to end → b ≡ takes half (is_protected rs len from) → AllAre (takes_char (taking half rs len)) (takes_place (taking half rs len)) b from (to - from)
  run_alike from to end b r e =
      λ q l. char_takes (from + q) ∙ (ap (takes half) (r.alike (from + q) (omega arith) (omega arith)) ∙ sym e)

  run_stops : (from to end : ℕ) (b : Bool) → IsRun rs len from to end → b ≡ takes half (is_protected rs len from) → (end - from - (to - from) ≡ 0) ⊎ (takes_char (taking half rs len) (from + (to - from)) ≡ not b)
  run_stops from to end b r e = cases (cases_lt to end)
    where
      cases : (to < end) ⊎ (end ≤ to) → (end - from - (to - from) ≡ 0) ⊎ (takes_char (taking half rs len) (from + (to - from)) ≡ not b)
      cases (inl l) =
          let k : from + (to - from) ≡ to = omega (arith, r.some) in
          inr (ap (takes_char (taking half rs len)) k ∙ (char_takes to ∙ (ap (takes half) (r.longest l) ∙ (takes-not (is_protected rs len from) ∙ ap not (sym e)))))
      cases (inr l) = inl (omega (arith, r.some))

  -- a run after the first
  pub run_on : (from to end : ℕ) (s : Sections) (b : Bool) (text : Chars) → IsRun rs len from to end → b ≡ takes half (is_protected rs len from) → text ≡ [] →
      normal spelled (pieced (taking half rs len) from (times spelled (end - from) follows (along_old spelled s))) ≡
      normal spelled (run_section b (to - from) text ∷ pieced (taking half rs len) to (times spelled (end - to) follows (along_old spelled s)))
  run_on from to end s b text r e t =
      let k : from + (to - from) ≡ to = omega (arith, r.some) in
      let l : end - from - (to - from) ≡ end - to = omega (arith, r.some, r.within) in
      run_next (takes_char (taking half rs len)) (takes_place (taking half rs len)) from (to - from) (end - from) s b (omega (arith, r.some)) (omega (arith, r.within)) (run_alike from to end b r e) (run_stops from to end b r e) ∙
      rw (t, k, l) refl

  -- the first run of a section
  pub run_begin : (at to count : ℕ) (t : Chars) (s : Sections) (b : Bool) (text : Chars) → IsRun rs len at to (at + count) → 0 < count → b ≡ takes half (is_protected rs len at) → text ≡ t →
      normal spelled (pieced (taking half rs len) at (along_old spelled (Replace count t ∷ s))) ≡
      normal spelled (run_section b (to - at) text ∷ pieced (taking half rs len) to (times spelled (at + count - to) follows (along_old spelled s)))
  run_begin at to zero t s b text r z e f = absurd (omega arith)
  run_begin at to (suc m) t s b text r z e f =
      let k : at + (to - at) ≡ to = omega (arith, r.some) in
      let l : suc m - (to - at) ≡ at + suc m - to = omega (arith, r.some, r.within) in
      let n : at + suc m - at ≡ suc m = omega arith in
      run_first (takes_char (taking half rs len)) (takes_place (taking half rs len)) at (to - at) m t s b (omega (arith, r.some)) (omega (arith, r.within)) (run_alike at to (at + suc m) b r e)
      (subst (λ j. (j - (to - at) ≡ 0) ⊎ (takes_char (taking half rs len) (at + (to - at)) ≡ not b)) n (run_stops at to (at + suc m) b r e)) ∙
      rw (f, k, l) refl

  -- characters that are kept, and an insertion
  pub keep_on : (at n : ℕ) (s : Sections) → normal spelled (pieced (taking half rs len) at (along_old spelled (Keep n ∷ s))) ≡ normal spelled (Keep n ∷ pieced (taking half rs len) (at + n) (along_old spelled s))
  keep_on at n s = stays-run (takes_char (taking half rs len)) (takes_place (taking half rs len)) n at (along_old spelled s)

  pub insert_on : (at : ℕ) (t text : Chars) (s : Sections) → takes half (is_inside rs len at) ≡ true → text ≡ t →
      normal spelled (pieced (taking half rs len) at (along_old spelled (Replace 0 t ∷ s))) ≡ normal spelled (Replace 0 text ∷ pieced (taking half rs len) (at + 0) (along_old spelled s))
  insert_on at t text s h e =
      insertion-run (takes_char (taking half rs len)) (takes_place (taking half rs len)) at t (along_old spelled s) ∙
      rw (place_takes at, h, e, add-zero at) refl

  pub insert_none : (at : ℕ) (t : Chars) (s done : Sections) → takes half (is_inside rs len at) ≡ false →
      half_from (taking half rs len) done (at + 0) s ≡ half_from (taking half rs len) done at (Replace 0 t ∷ s)
  insert_none at t s done h =
      let e : normal spelled (pieced (taking half rs len) at (along_old spelled (Replace 0 t ∷ s))) ≡ normal spelled (pieced (taking half rs len) (at + 0) (along_old spelled s)) =
      insertion-run (takes_char (taking half rs len)) (takes_place (taking half rs len)) at t (along_old spelled s) ∙ rw (place_takes at, h, add-zero at) refl in
      sym (normal-back spelled spelled_laws done (pieced (taking half rs len) at (along_old spelled (Replace 0 t ∷ s))) (pieced (taking half rs len) (at + 0) (along_old spelled s)) e)

  -- nothing is left
  pub all_done : (at : ℕ) (done all s : Sections) (i : ℕ) → length s ≤ i → normal spelled done ≡ done → half_from (taking half rs len) done at (drop i s) ≡ all → done ≡ all
  all_done at done all s i l n h =
      sym n ∙ (sym (end (takes_place (taking half rs len) at)) ∙ subst (λ d. half_from (taking half rs len) done at d ≡ all) (drop_all i s l) h)
    where
      end : (b : Bool) → normal spelled (done ++ closed spelled (gather spelled (cond b (single (Replace 0 []) ∷ []) []))) ≡ normal spelled done
      end true = normal-blank spelled spelled_laws done (Replace 0 []) refl
      end false = normal-blank spelled spelled_laws done (Replace 0 []) refl

pub filtered-normal : (old new : Sections) (y : Section Chars) → new ≡ normal spelled (old ++ y ∷ []) → normal spelled new ≡ new
filtered-normal old new y e = rw e (normal-normal spelled spelled_laws (old ++ y ∷ []))

pub room_at : (s t : Sections) → s ≡ t → HasRoom t → HasRoom s
room_at s t e h = subst HasRoom (sym e) h
