use Rattle.std.proofs.Common.{arith}
use Rattle.change_desc.proofs.MapArms.{second_text_step}
use Rattle.change_desc.proofs.weave.Weave.second_text.Goals as goal
use Rattle.change_desc.proofs.weave.Weave.second_text.Goals.{then-count-eq0+in_ok-single, else-count-eq0+in_ok-stretch}

pub returns : goal.returns
returns c =
    elim c.if-count-eq0.branch [
      | then-count-eq0+in_ok-single w ↦
          rw (w.self-is, c.opened.ensures)
          (second_text_step c.args.before c.args.self.now w.single.new.self c.args.a c.args.b c.left_old-count.result c.still_new-len.result c.requires.next c.requires.tails.0 c.requires.tails.1
          c.left_old-count.ensures c.still_new-len.ensures (λ e. w.in_ok-single.ensures) (λ p. absurd (omega arith)))
      | else-count-eq0+in_ok-stretch w ↦
          rw (w.self-is, c.opened.ensures)
          (second_text_step c.args.before c.args.self.now w.stretch.new.self c.args.a c.args.b c.left_old-count.result c.still_new-len.result c.requires.next c.requires.tails.0 c.requires.tails.1
          c.left_old-count.ensures c.still_new-len.ensures (λ e. absurd (w.if-count-eq0.false e)) (λ p. w.in_ok-stretch.ensures))
    ]
