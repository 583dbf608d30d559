use Rattle.std.proofs.Common.{◌≡◌, ◌+◌, ◌≤◌, cond, length, drop, ap, arith}
use Rattle.std.specs.Prelude.{◌==◌, ◌&&◌}
use Rattle.std.specs.Str.{chars}
use Rattle.std.proofs.lemmas.Bool.Decides.{nat_tests}
use Rattle.std.proofs.lemmas.Iterator.{YieldsList-from_chars}
use Rattle.std.proofs.lemmas.Iterator.Consumers.{YieldsList-turn, YieldsList-end}
use Rattle.std.proofs.lemmas.List.{at_drop_all, length_push}
use Rattle.line_tree.specs.Text.{cut_after}
use Rattle.file_text.proofs.Lengths.{cut_step}
use Rattle.file_text.proofs.opening.cut_length.Goals as goal
use Rattle.file_text.proofs.opening.cut_length.Goals.{then-c-eq10, else-c-eq10, then-not-after_return, else-not-after_return}

pub loop-c-preserved : goal.loop-c-preserved
loop-c-preserved c =
    let cs = chars c.args.string.now in
    let ch = c.in-Some.c in
    let i = length c.loop-c.yielded in
    let was = c.loop-c.after_return in
    let t = YieldsList-turn (YieldsList-from_chars c.args.string.now c.utf8.string cc) c.loop-c.yielded _ c.loop-c.yielded_by _ _ ch c.in-Some.is c.next.ensures.steps in
    let pushed = length_push c.loop-c.yielded ch in
    let step = cut_step was cs i ch t.0 t.1 in
    let there = ap (λ k. length (cut_after (ch == 13) (drop k cs))) pushed in
    let more : c.if-not-after_return.len ≡ c.loop-c.len + cond ((ch == 10) && was) 0 1 =
    elim c.if-c-eq10.branch [
      | then-c-eq10 v ↦ elim c.if-not-after_return.branch [ then-not-after_return w ↦ grind (arith, nat_tests) | else-not-after_return w ↦ grind (arith, nat_tests) ]
      | else-c-eq10 v ↦ elim c.if-not-after_return.branch [ then-not-after_return w ↦ grind (arith, nat_tests) | else-not-after_return w ↦ grind (arith, nat_tests) ]
    ] in
    let one : cond ((ch == 10) && was) 0 1 ≤ 1 = grind (arith, nat_tests) in
    record {
      few = omega (arith, more, one, pushed);
      rest = omega (arith, more, step, there);
    }

pub returns : goal.returns
returns c =
    let t = YieldsList-end (YieldsList-from_chars c.args.string.now c.utf8.string cc) c.loop-c.yielded _ c.loop-c.yielded_by _ _ c.in-None.is c.next.ensures.steps in
    omega (arith, at_drop_all (λ r. length (cut_after c.loop-c.after_return r)) (chars c.args.string.now) (length c.loop-c.yielded) (omega (arith, t.1)))
