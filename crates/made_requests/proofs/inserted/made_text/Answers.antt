use Rattle.std.proofs.Common.{arith, ap, length}
use Rattle.made_requests.proofs.Texts.{made_more}
use Rattle.workload.proofs.Texts.{made_size}
use Rattle.made_requests.proofs.inserted.made_text.Goals as goal

pub loop-index-preserved : goal.loop-index-preserved
loop-index-preserved c =
    made_more c.args.letter c.loop-index.index c.character.result c.loop-index.chars.items c.push.new.self.items c.loop-index.invariant c.character.ensures c.in_ok-push.ensures.ok

pub push_all-requires : goal.push_all-requires
push_all-requires c =
    omega (arith, made_size c.loop-index.index c.args.letter, ap length c.loop-index.invariant, ap length c.new-builder.ensures, ap length c.as_slice.ensures)
