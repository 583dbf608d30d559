use Rattle.std.proofs.Common.{arith, refl}
use Rattle.change_desc.proofs.MapArms.{first_text_step}
use Rattle.change_desc.proofs.weave.Weave.first_text.Goals as goal
use Rattle.change_desc.proofs.weave.Weave.first_text.Goals.{then-len-gt0+in_ok-single, else-len-gt0}

pub returns : goal.returns
returns c =
    elim c.if-len-gt0.branch [
      | then-len-gt0+in_ok-single w ↦
          rw (w.self-is, c.opened.ensures)
          (first_text_step c.args.before c.args.self.now w.single.new.self c.args.a c.args.b c.left_old-count.result c.still_new-len.result c.requires.next c.requires.fresh c.requires.tails.0 c.requires.tails.1
          c.left_old-count.ensures c.still_new-len.ensures c.requires.is_normal (λ e. absurd (omega arith)) (λ p. w.in_ok-single.ensures))
      | else-len-gt0 w ↦
          rw (w.self-is, c.opened.ensures)
          (first_text_step c.args.before c.args.self.now c.args.self.now c.args.a c.args.b c.left_old-count.result c.still_new-len.result c.requires.next c.requires.fresh c.requires.tails.0 c.requires.tails.1
          c.left_old-count.ensures c.still_new-len.ensures c.requires.is_normal (λ e. refl) (λ p. absurd (omega arith)))
    ]
