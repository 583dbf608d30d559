-- When a list of changes is refused.
use Rattle.std.proofs.Common.{◌≡◌, ℕ, zero, suc, ◌+◌, ◌≤◌, ◌<◌, Bool, true, false, cond, ◌||◌, ltb, eqb, List, [], ◌∷◌, fold, length, drop, Some, None, refl, sym, ap, subst, ◌∙◌, arith}
use Rattle.std.proofs.lemmas.Bool.{eqb-true, ltb-false, lt-ltb, le-ltb}
use Rattle.std.proofs.lemmas.List.{drop_all}
use Rattle.std.specs.declared.option.Option.{Option}
use Rattle.std.specs.Option.{option_or}
use Rattle.change_desc.specs.declared.section.Section.TheVariants.{Keep}
use Rattle.change_desc.specs.Sections.{Sections, spelled, old_size, new_size, normal}
use Rattle.change_desc.specs.Of.{then_also, of}
use Rattle.change_set.specs.declared.change.Change.{Change}
use Rattle.change_set.specs.declared.change.Change.TheVariants.{Span, Set}
use Rattle.change_set.specs.declared.error.ChangesError.{ChangesError}
use Rattle.change_set.specs.declared.error.ChangesError.TheVariants.{TooLong}
use Rattle.change_set.proofs.RunningTotals.{spelled-old}
use Rattle.change_set.specs.Changes.{as_set, as_sets}
use Rattle.change_set.specs.Refusals.{fault, first_fault, too_long, refusal}
use Rattle.change_set.specs.Totals.{IsOver, IsTooLong, IsTotal}

option_or-none : (a b : Option ChangesError) → option_or a b ≡ None → (a ≡ None) × (b ≡ None)
option_or-none None b h = (refl, h)
option_or-none (Some e) b h = cc

cond-false : (b : Bool) (e : ChangesError) → cond b (Some e) None ≡ None → b ≡ false
cond-false true e h = cc
cond-false false e h = refl

cond-true : (b : Bool) (e : ChangesError) → cond b None (Some e) ≡ None → b ≡ true
cond-true true e h = refl
cond-true false e h = cc

neither : (a b : Bool) → (a || b) ≡ false → (a ≡ false) × (b ≡ false)
neither false b h = (refl, h)
neither true b h = cc

fault-none : (len i : ℕ) (x : Change) → fault len i x ≡ None → IsOver len x
fault-none len i (Span from to insert) h =
    let e : (ltb to from ≡ false) × (ltb len to ≡ false) = neither (ltb to from) (ltb len to) (cond-false (ltb to from || ltb len to) _ h) in
    (ltb-false to from e.0, ltb-false len to e.1)
fault-none len i (Set s) h = eqb-true (old_size s) len (cond-true (eqb (old_size s) len) _ h)

pub sound-next : (len i : ℕ) (changes rest : List Change) (x : Change) → changes ≡ x ∷ rest → first_fault len i changes ≡ None → IsOver len x × (first_fault len (i + 1) rest ≡ None)
sound-next len i changes rest x e h =
    let f : (fault len i x ≡ None) × (first_fault len (suc i) rest ≡ None) =
    option_or-none (fault len i x) (first_fault len (suc i) rest) (subst (λ c. first_fault len i c ≡ None) e h) in
    let g : i + 1 ≡ suc i = omega arith in
    (fault-none len i x f.0, subst (λ j. first_fault len j rest ≡ None) (sym g) f.1)

pub refused-fault : (len max : ℕ) (changes : List Change) (error : ChangesError) → first_fault len 0 changes ≡ Some error → refusal len max changes ≡ Some error
refused-fault len max changes error h = ap (λ o. option_or o (too_long max (normal spelled (Keep len ∷ [])) (as_sets len changes))) h

pub refused-long : (len max : ℕ) (changes : List Change) → first_fault len 0 changes ≡ None → refusal len max changes ≡ too_long max (normal spelled (Keep len ∷ [])) (as_sets len changes)
refused-long len max changes h = ap (λ o. option_or o (too_long max (normal spelled (Keep len ∷ [])) (as_sets len changes))) h

pub long-now : (max : ℕ) (total : Sections) (sets : List Sections) → max < new_size spelled total → too_long max total sets ≡ Some (TooLong (new_size spelled total) max)
long-now max total [] h = rw (lt-ltb max (new_size spelled total) h) refl
long-now max total (s ∷ sets) h = rw (lt-ltb max (new_size spelled total) h) refl

pub long-next : (max : ℕ) (total s : Sections) (sets : List Sections) → new_size spelled total ≤ max → too_long max total (s ∷ sets) ≡ too_long max (then_also spelled total s) sets
long-next max total s sets h = rw (le-ltb max (new_size spelled total) h) refl

pub long-end : (max : ℕ) (total : Sections) → new_size spelled total ≤ max → too_long max total [] ≡ None
long-end max total h = rw (le-ltb max (new_size spelled total) h) refl

pub keep-old : (len : ℕ) → old_size (normal (spelled {C = ℕ}) (Keep len ∷ [])) ≡ len
keep-old zero = refl
keep-old (suc n) = omega arith

pub keep-new : (len : ℕ) → new_size (spelled {C = ℕ}) (normal (spelled {C = ℕ}) (Keep len ∷ [])) ≡ len
keep-new zero = refl
keep-new (suc n) = omega arith

pub start-long : (len max : ℕ) (changes : List Change) (n : ℕ) → first_fault len 0 changes ≡ None → max < len → n ≡ len → refusal len max changes ≡ Some (TooLong n max)
start-long len max changes n h l e =
    refused-long len max changes h ∙
    (long-now max (normal spelled (Keep len ∷ [])) (as_sets len changes) (omega (arith, keep-new len)) ∙ ap (λ k. Some (TooLong k max)) (keep-new len ∙ sym e))

pub set-old : (len : ℕ) (x : Change) → IsOver len x → old_size (as_set len x) ≡ len
set-old len (Span from to insert) h = spelled-old len from to insert h.0 h.1
set-old len (Set s) h = h

pub walk-start : (len max : ℕ) (total : Sections) (changes : List Change) → first_fault len 0 changes ≡ None → total ≡ normal spelled (Keep len ∷ []) → len ≤ max → IsTotal len max 0 total changes
walk-start len max total changes h e l = record {
  folds = rw e refl;
  rest = rw e (sym (refused-long len max changes h));
  sound = h;
  old = ap old_size e ∙ keep-old len;
  short = omega (arith, ap (new_size spelled) e, keep-new len);
}

pub walk-over : (len max i : ℕ) (total : Sections) (changes : List Change) (x : Change) → IsTotal len max i total changes → drop i changes ≡ x ∷ drop (i + 1) changes → IsOver len x
walk-over len max i total changes x w e = (sound-next len i (drop i changes) (drop (i + 1) changes) x e w.sound).0

pub walk-next : (len max i : ℕ) (total longer : Sections) (changes : List Change) (x : Change) → IsTotal len max i total changes → drop i changes ≡ x ∷ drop (i + 1) changes →
    longer ≡ then_also spelled total (as_set len x) → old_size longer ≡ len → new_size spelled longer ≤ max → IsTotal len max (i + 1) longer changes
walk-next len max i total longer changes x w e l o n = record {
  folds = rw l (subst (λ c. fold (then_also spelled) total (as_sets len c) ≡ of spelled len (as_sets len changes)) e w.folds);
  rest = rw l (sym (long-next max total (as_set len x) (as_sets len (drop (i + 1) changes)) w.short) ∙ subst (λ c. too_long max total (as_sets len c) ≡ refusal len max changes) e w.rest);
  sound = (sound-next len i (drop i changes) (drop (i + 1) changes) x e w.sound).1;
  old = o;
  short = n;
}

pub walk-long : (len max i : ℕ) (total : Sections) (changes : List Change) (x : Change) (error : ChangesError) → IsTotal len max i total changes → drop i changes ≡ x ∷ drop (i + 1) changes →
    IsTooLong max (then_also spelled total (as_set len x)) error → refusal len max changes ≡ Some error
walk-long len max i total changes x error w e t =
    sym w.rest ∙ (ap (λ c. too_long max total (as_sets len c)) e ∙
    (long-next max total (as_set len x) (as_sets len (drop (i + 1) changes)) w.short ∙
    (long-now max (then_also spelled total (as_set len x)) (as_sets len (drop (i + 1) changes)) t.longer ∙ ap Some (sym t.says))))

pub walk-done : (len max i : ℕ) (total : Sections) (changes : List Change) → IsTotal len max i total changes → length changes ≤ i →
    (total ≡ of spelled len (as_sets len changes)) × (refusal len max changes ≡ None)
walk-done len max i total changes w l =
    let d : drop i changes ≡ [] = drop_all i changes l in (
      subst (λ c. fold (then_also spelled) total (as_sets len c) ≡ of spelled len (as_sets len changes)) d w.folds,
      sym w.rest ∙ (ap (λ c. too_long max total (as_sets len c)) d ∙ long-end max total w.short),
    )
