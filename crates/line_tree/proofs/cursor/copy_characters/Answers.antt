use Rattle.std.proofs.Common.{◌≡◌, ◌++◌, ◌+◌, ◌-◌, length, take, drop, sym, ◌∙◌, ap, append_assoc, length-append, arith}
use Rattle.std.proofs.lemmas.List.{drop-drop, length-take}
use Rattle.std.proofs.Math.Seq.{take-add}
use Rattle.line_tree.proofs.Inside.{run_part}
use Rattle.line_tree.proofs.cursor.copy_characters.Goals as goal

pub loop-left-preserved : goal.loop-left-preserved
loop-left-preserved c =
    let cs = c.args.text.now.characters in
    let pos = c.loop-left.pos in
    let left = c.loop-left.left in
    let now = c.min-now.result in
    let builder = c.loop-left.builder in
    let run = run_part cs c.run_at-run.result.now pos now c.run_at-run.ensures.run (omega arith) in
    let all : now + (left - now) ≡ left = omega arith in
    let whole : take now (drop pos cs) ++ take (left - now) (drop (pos + now) cs) ≡ take left (drop pos cs) =
    ap (λ r. take now (drop pos cs) ++ take (left - now) r) (sym (drop-drop now pos cs)) ∙ sym (take-add now (left - now) (drop pos cs)) ∙ ap (λ n. take n (drop pos cs)) all in
    record {
      value = ap (λ r. r ++ take (left - now) (drop (pos + now) cs)) (c.in_ok-push_all.ensures ∙ ap (λ r. builder ++ r) run)
          ∙ append_assoc builder (take now (drop pos cs)) (take (left - now) (drop (pos + now) cs)) ∙ ap (λ r. builder ++ r) whole ∙ c.loop-left.invariant.value;
      within = omega (arith, c.loop-left.invariant.within);
      fits = omega (arith, ap length c.in_ok-push_all.ensures, length-append builder (take now c.run_at-run.result.now), length-take now c.run_at-run.result.now, c.loop-left.invariant.fits);
    }
