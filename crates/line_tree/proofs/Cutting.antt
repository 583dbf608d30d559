-- Characters that are cut at CR, run by run.
use Rattle.std.proofs.Common.{◌≡◌, ℕ, ◌+◌, ◌≤◌, Bool, true, false, cond, List, [], ◌∷◌, ◌++◌, length, length-append, take, drop, refl, sym, ◌∙◌, ap, subst, append_assoc, arith}
use Rattle.std.specs.Prelude.{◌==◌, ◌&&◌}
use Rattle.std.specs.List.{count_by}
use Rattle.std.proofs.lemmas.List.{take-append-drop}
use Rattle.std.proofs.lemmas.List.Sums.{sum_by-cons}
use Rattle.line_tree.specs.Text.{carriage_return, cut_after, HasNoReturn, BeginsWithReturn}

weight : Bool → ℕ
weight b = cond b 1 0

not_first : (c : ℕ) (run : List ℕ) → HasNoReturn (c ∷ run) → (weight (c == carriage_return) ≡ 0) × HasNoReturn run
unfolding weight
not_first c run h =
    let e : count_by (λ x. x == carriage_return) (c ∷ run) ≡ weight (c == carriage_return) + count_by (λ x. x == carriage_return) run = sum_by-cons (λ x. cond (x == carriage_return) 1 0) c run in
    (omega (arith, e, h), omega (arith, e, h))

kept : (b was : Bool) (c : ℕ) (lf after rest : List ℕ) → weight b ≡ 0 → cond b lf (cond ((c == 10) && false) after rest) ≡ rest
unfolding weight
kept true was c lf after rest h = absurd (let one : 1 ≡ 0 = h in omega (arith, one))
kept false was c lf after rest h = elim (c == 10) as (λ t. cond (t && false) after rest ≡ rest) [ true ↦ refl | false ↦ refl ]

-- characters without CR stay as they are
pub cut_run : (run rest : List ℕ) → HasNoReturn run → cut_after false (run ++ rest) ≡ run ++ cut_after false rest
cut_run [] rest h = refl
cut_run (c ∷ run) rest h =
    let n = not_first c run h in
    kept (c == carriage_return) false c (10 ∷ cut_after true (run ++ rest)) (cut_after false (run ++ rest)) (c ∷ cut_after false (run ++ rest)) n.0 ∙ ap (λ r. c ∷ r) (cut_run run rest n.1)

-- one run of characters more, and what is left after it
pub run_done : (builder new rest run after all : List ℕ) (n : ℕ) → run ≡ take n rest → after ≡ drop n rest → HasNoReturn (take n rest) → builder ++ cut_after false rest ≡ all → new ≡ builder ++ run
    → new ++ cut_after false after ≡ all
run_done builder new rest run after all n is left none whole e =
    let cut_rest : run ++ cut_after false after ≡ cut_after false rest =
    sym (cut_run run after (subst HasNoReturn (sym is) none)) ∙ ap (cut_after false) (ap (λ r. r ++ after) is ∙ ap (λ r. take n rest ++ r) left ∙ take-append-drop n rest) in
    ap (λ r. r ++ cut_after false after) e ∙ append_assoc builder run (cut_after false after) ∙ ap (λ r. builder ++ r) cut_rest ∙ whole

-- a CR ends the run
pub return_done : (builder new after next rest all : List ℕ) (c : ℕ) → after ≡ c ∷ next → BeginsWithReturn after → builder ++ cut_after false after ≡ all → new ≡ builder ++ 10 ∷ []
    → cut_after false rest ≡ cut_after true next → new ++ cut_after false rest ≡ all
return_done builder new after next rest all c is begins whole e same =
    let first : c ≡ 13 = subst BeginsWithReturn is begins in
    ap (λ r. new ++ r) same ∙ ap (λ r. r ++ cut_after true next) e ∙ append_assoc builder (10 ∷ []) (cut_after true next)
    ∙ ap (λ r. builder ++ r) (sym (ap (cut_after false) (is ∙ ap (λ x. x ∷ next) first))) ∙ whole

-- both are no longer than the whole
pub run_shorter : (builder rest run after all : List ℕ) (n : ℕ) → run ≡ take n rest → after ≡ drop n rest → HasNoReturn (take n rest) → builder ++ cut_after false rest ≡ all → length builder + length run ≤ length all
run_shorter builder rest run after all n is left none whole =
    let e = run_done builder (builder ++ run) rest run after all n is left none whole refl in
    omega (arith, ap length e, length-append (builder ++ run) (cut_after false after), length-append builder run)

pub return_shorter : (builder after next all : List ℕ) (c : ℕ) → after ≡ c ∷ next → BeginsWithReturn after → builder ++ cut_after false after ≡ all → length builder + 1 ≤ length all
return_shorter builder after next all c is begins whole =
    let first : c ≡ 13 = subst BeginsWithReturn is begins in
    omega (arith, ap length whole, length-append builder (cut_after false after), ap (λ r. length (cut_after false r)) (is ∙ ap (λ x. x ∷ next) first))
