-- The next transaction's line.
use Rattle.std.proofs.Common.{◌≡◌, ℕ, ◌-◌, ◌*◌, ◌<◌, ◌≤◌, suc, List, ◌∷◌, ◌++◌, drop, arith, ap, ◌∙◌, sym}
use Rattle.workload.specs.Edits.{after, next_edit}
use Rattle.workload.specs.MadeLines.{edit_line, edit_lines, first_lines}
use Rattle.workload.specs.declared.edit.Edit.{Edit}
use Rattle.workload.specs.declared.progress.Progress.{Progress}

line_and_others : (left : ℕ) (p q : Progress) (e : Edit) (end : List (List ℕ)) → e ≡ next_edit p → q ≡ after p
    → edit_lines (suc left) p ++ end ≡ edit_line (100 * p.number) e ∷ (edit_lines left q ++ end)
line_and_others left p q e end is next =
    sym (ap (λ (f : Edit). edit_line (100 * p.number) f ∷ (edit_lines left q ++ end)) is
    ∙ ap (λ (r : Progress). edit_line (100 * p.number) (next_edit p) ∷ (edit_lines left r ++ end)) next)

-- where the first lines were given and a transaction is left, its line comes next
pub next_line : (first left : ℕ) (p q : Progress) (e : Edit) (end : List (List ℕ)) → 4 ≤ first → first ≤ 4 → 0 < left
    → e ≡ next_edit p → q ≡ after p
    → drop first first_lines ++ edit_lines left p ++ end ≡ edit_line (100 * p.number) e ∷ (drop first first_lines ++ edit_lines (left - 1) q ++ end)
next_line first left p q e end all few some is next =
    let four : first ≡ 4 = omega arith in
    let one : left ≡ suc (left - 1) = omega arith in
    ap (λ (n : ℕ). drop n first_lines ++ edit_lines left p ++ end) four
    ∙ (ap (λ (n : ℕ). edit_lines n p ++ end) one
    ∙ (line_and_others (left - 1) p q e end is next
    ∙ ap (λ (n : ℕ). edit_line (100 * p.number) e ∷ (drop n first_lines ++ edit_lines (left - 1) q ++ end)) (sym four)))
