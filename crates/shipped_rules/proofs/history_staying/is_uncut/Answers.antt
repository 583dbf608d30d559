use Rattle.std.proofs.Common.{◌≡◌, ◌≤◌, ◌∙◌, IsTrue, arith, ltb, sym, true, w64}
use Rattle.std.proofs.lemmas.Bool.Decides.{nat_tests}
use Rattle.std.proofs.lemmas.Int.{to_z-of_z}
use Rattle.history.specs.Steps.{kept_count}
use Rattle.shipped_rules.proofs.IdleSteps.{uncut}
use Rattle.shipped_rules.proofs.history_staying.is_uncut.Goals as goal
use Rattle.shipped_rules.proofs.history_staying.is_uncut.Goals.{then-done-gt0, else-done-gt0}

pub returns-then-keeps : goal.returns-then-keeps
returns-then-keeps c = λ t. elim c.if-done-gt0.branch [
  | then-done-gt0 w ↦
      let h = c.args.history.now in
      let d = c.depth-done.ensures.done in
      let p = w.if-done-gt0.true in
      let kept : IsTrue w.keeps.result = sym w.value-is ∙ c.if-keeps.true in
      let few : c.depth-done.result.0 ≤ kept_count c.args.depth = rw (to_z-of_z w64 c.args.depth c.ranges.depth) at w.keeps.ensures kept in
      uncut c.args.depth h (omega (arith, d, p)) (c.has_changes_alone.ensures.done t) (c.has_changes_alone.ensures.undone t) (omega (arith, d, few))
  | else-done-gt0 w ↦ let t : ltb 0 c.depth-done.result.0 ≡ true = sym w.value-is ∙ c.if-keeps.true in let f = w.if-done-gt0.false in absurd (grind (arith, nat_tests))
]
