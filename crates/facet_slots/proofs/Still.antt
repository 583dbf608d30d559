-- A transaction that is not flagged leaves the document and the selection as they were.
use Rattle.std.proofs.Common.{◌≡◌, ◌≤◌, ◌<◌, ◌+◌, ◌-◌, ◌∙◌, ℕ, zero, suc, min, max, List, [], ◌∷◌, ◌++◌, Bool, true, false, not, ◌||◌, cond, eqb, ltb, Option, Some, unwrap_or, length, map, take, drop, refl, sym, ap, subst, arith, ⊎_elim}
use Rattle.std.proofs.lemmas.Bool.{cases_lt, eq-eqb, lt-ltb, ne_eqb}
use Rattle.std.proofs.lemmas.Bool.Decides.{Decides-eqb, nat_tests}
use Rattle.std.proofs.lemmas.List.{length-drop, take-append-drop}
use Rattle.change_desc.specs.declared.section.Section.{Section}
use Rattle.change_desc.specs.declared.section.Section.TheVariants.{Keep, Replace}
use Rattle.change_desc.specs.Places.{place_after}
use Rattle.change_desc.specs.Positions.{cuts, moved}
use Rattle.change_desc.specs.Steps.{plus}
use Rattle.change_desc.specs.Ranges.{changes_nothing}
use Rattle.change_desc.specs.Sections.{apply, counted, lengths, old_size, spelled}
use Rattle.change_desc.proofs.Merges.{old_size-lengths}
use Rattle.change_desc.proofs.Moves.{moved-keep_in, moved-keep_on}
use Rattle.selection.specs.declared.range.Range.{Range}
use Rattle.selection.specs.Ranges.{cursor, high, low, moved_range, uncrossed}
use Rattle.selection.specs.Selections.{IsSelection, LieIn, SelectionView, moved_selection, normal_form, single_of}
use Rattle.selection.proofs.CreatedAgain.{created_again}
use Rattle.values.specs.Views.{TransactionView}
use Rattle.facet_slots.specs.Making.{IsMade, IsMadeIn}
use Rattle.facet_slots.specs.Scenes.{SceneView, IsScene}
use Rattle.facet_slots.specs.Stepping.{Transition, Enter, Update, scene_after}
use Rattle.facet_slots.specs.Flags.{SceneKept, moved_by}
use Rattle.facet_slots.proofs.Unflagged.{or-false, not-false}

not-less : (m n : ℕ) → n ≤ m → ltb m n ≡ false
not-less m n h = grind (arith, nat_tests)

-- where nothing is changed the document stays
pub apply-still : (s : List (Section (List ℕ))) (document : List ℕ) → changes_nothing s ≡ true → old_size s ≡ length document → apply s document ≡ document
apply-still [] [] h e = refl
apply-still [] (c ∷ cs) h e = absurd (omega (arith, e))
apply-still (Replace n t ∷ s) document h e = cc
apply-still (Keep n ∷ s) document h e =
    let d = length-drop n document in
    ap (λ (cs : List ℕ). take n document ++ cs) (apply-still s (drop n document) h (omega (arith, e, d))) ∙ take-append-drop n document

-- and each place
place-still : (s : List (Section ℕ)) (p : ℕ) (negative : Bool) → changes_nothing s ≡ true → p ≤ old_size s → moved negative p (cuts counted s) ≡ Some p
place-still [] p true h le = let e : p ≡ 0 = omega (arith, le) in rw e refl
place-still [] p false h le = let e : p ≡ 0 = omega (arith, le) in rw e refl
place-still (Replace n t ∷ s) p negative h le = cc
place-still (Keep n ∷ s) p negative h le =
    ⊎_elim (λ lt. moved-keep_in counted negative n s p lt)
    (λ past. let same : n + (p - n) ≡ p = omega (arith, past) in
    moved-keep_on counted negative n s p past ∙ ap (plus n) (place-still s (p - n) negative h (omega (arith, le, past))) ∙ ap Some same) (cases_lt p n)

after-still : (s : List (Section ℕ)) (p : ℕ) (negative : Bool) → changes_nothing s ≡ true → p ≤ old_size s → place_after s p negative ≡ p
after-still s p negative h le = ap (λ (o : Option ℕ). unwrap_or o 0) (place-still s p negative h le)

range-parts : (a b : ℕ) → cond (eqb a b) (cursor b) (uncrossed (min a b) (max a b) (ltb b a)) ≡ record { anchor = a; head = b }
range-parts a b =
    ⊎_elim
    (λ lt. let l : min a b ≡ a = omega (arith, lt) in let g : max a b ≡ b = omega (arith, lt) in
    rw (l, g, ne_eqb a b (λ e. omega (arith, lt, e)), not-less b a (omega (arith, lt))) refl)
    (λ le. ⊎_elim
    (λ lt. let l : min a b ≡ b = omega (arith, lt) in let g : max a b ≡ a = omega (arith, lt) in
    rw (l, g, ne_eqb a b (λ e. omega (arith, lt, e)), not-less a b (omega (arith, lt)), lt-ltb b a lt) refl)
    (λ le'. let e : a ≡ b = omega (arith, le, le') in rw (e, eq-eqb b b refl) refl)
    (cases_lt b a))
    (cases_lt a b)

range-still : (s : List (Section ℕ)) (r : Range) → changes_nothing s ≡ true → high r ≤ old_size s → moved_range s r ≡ r
range-still s r h le =
    rw (after-still s r.head true h (omega (arith, le)), after-still s (low r) false h (omega (arith, le)), after-still s (high r) true h le) (range-parts r.anchor r.head)

ranges-still : (s : List (Section ℕ)) (rs : List Range) → changes_nothing s ≡ true → LieIn (old_size s) rs → map (moved_range s) rs ≡ rs
ranges-still s [] h inside = refl
ranges-still s (r ∷ rs) h inside = let one = range-still s r h inside.0 in let rest = ranges-still s rs h inside.1 in cc

-- and the selection
pub selection-still : (s : List (Section ℕ)) (selection : SelectionView) → IsSelection selection → changes_nothing s ≡ true → LieIn (old_size s) selection.ranges → moved_selection s selection ≡ selection
selection-still s selection is h inside = ap (λ (rs : List Range). normal_form rs selection.main) (ranges-still s selection.ranges h inside) ∙ created_again selection is

nothing-lengths : (s : List (Section (List ℕ))) → changes_nothing (lengths spelled s) ≡ changes_nothing s
nothing-lengths [] = refl
nothing-lengths (Keep n ∷ s) = nothing-lengths s
nothing-lengths (Replace n t ∷ s) = refl

-- a selection that is cut to its main range has one range, so that it is whole where it has as many as before
single-parts : (rs : List Range) (main : ℕ) → main < length rs → length (take 1 (drop main rs)) ≡ length rs → single_of (record { ranges = rs; main = main }) ≡ record { ranges = rs; main = main }
single-parts [] main lt e = absurd (omega (arith, lt))
single-parts (r ∷ []) zero lt e = refl
single-parts (r ∷ []) (suc main) lt e = absurd (omega (arith, lt))
single-parts (r ∷ q ∷ rs) main lt e = absurd (two-one (drop main (r ∷ q ∷ rs)) (length rs) e)
  where
    two-one : (xs : List Range) (n : ℕ) → length (take 1 xs) ≡ suc (suc n) → ⊥
    two-one [] n f = omega (arith, f)
    two-one (x ∷ xs) n f = omega (arith, f)

pub single-whole : (selection : SelectionView) → IsSelection selection → length (single_of selection).ranges ≡ length selection.ranges → single_of selection ≡ selection
single-whole selection is e = single-parts selection.ranges selection.main is.within e

module _ (scene : SceneView) (fine : IsScene scene) (t : TransactionView) (made : IsMade scene t) where
  document-stays : changes_nothing t.changes ≡ true → scene.document ≡ t.document
  document-stays h = sym made.start ∙ sym (made.is.document ∙ apply-still t.changes t.start h made.is.starts)

  mapped-stays : changes_nothing t.changes ≡ true → moved_selection (lengths spelled t.changes) t.start_selection ≡ t.start_selection
  mapped-stays h =
      selection-still (lengths spelled t.changes) t.start_selection (subst IsSelection (sym made.start_selection) fine.is_selection) (nothing-lengths t.changes ∙ h)
      (subst (λ (n : ℕ). LieIn n t.start_selection.ranges) (sym (old_size-lengths spelled t.changes ∙ made.is.starts)) made.is.start_inside)

  selection-stays : changes_nothing t.changes ≡ true → t.given ≡ false → eqb (length t.selection.ranges) (length t.start_selection.ranges) ≡ true → scene.selection ≡ t.selection
  selection-stays h given many =
      let same : length t.selection.ranges ≡ length t.start_selection.ranges = (Decides-eqb (length t.selection.ranges) (length t.start_selection.ranges)).0 many in
      sym made.start_selection
      ∙ sym (⊎_elim (λ whole. whole ∙ mapped-stays h)
      (λ cut. let is : t.selection ≡ single_of t.start_selection = cut ∙ ap single_of (mapped-stays h) in
      is ∙ single-whole t.start_selection (subst IsSelection (sym made.start_selection) fine.is_selection) (ap (λ (s : SelectionView). length s.ranges) (sym is) ∙ same)) (made.selection given))

-- what a transition doesn't flag of the document and the selection stays
pub scene-kept : (scene : SceneView) → IsScene scene → (transition : Transition) → IsMadeIn scene transition → SceneKept (moved_by transition) scene (scene_after transition scene)
scene-kept scene fine Enter made = record { document = λ e. refl; selection = λ e. refl }
scene-kept scene fine (Update t) made =
    record {
      document = λ e. document-stays scene fine t made (not-false (changes_nothing t.changes) e);
      selection = λ e.
          let p = or-false (not (changes_nothing t.changes) || t.given) (not (eqb (length t.selection.ranges) (length t.start_selection.ranges))) e in
          let q = or-false (not (changes_nothing t.changes)) t.given p.0 in
          selection-stays scene fine t made (not-false (changes_nothing t.changes) q.0) q.1 (not-false (eqb (length t.selection.ranges) (length t.start_selection.ranges)) p.1);
    }

-- and what it leads to is a document with a selection of it, where the new selection is one
pub scene-is : (scene : SceneView) → IsScene scene → (t : TransactionView) → IsMade scene t → IsSelection t.selection → IsScene (scene_after (Update t) scene)
scene-is scene fine t made is = record { short = made.is.new_short; is_selection = is; inside = made.is.inside }
