use Rattle.std.proofs.Common.{string_bytes, arith}
use Rattle.workload.specs.MadeLines.{line_of}
use Rattle.made_run.proofs.LastReplies.{goes_on}
use Rattle.made_run.proofs.run.last_reply.Goals as goal

pub loop-line-preserved : goal.loop-line-preserved
loop-line-preserved g c = record {
  going = goes_on g.A.Answers.machine c.args.workload c.loop-line.line-iterator (line_of c.in-Some.line) c.next.new.self
      (g.A.Answers.told c.args.answers.now c.args.store.now) (g.A.Answers.told c.loop-line.answers c.loop-line.store) (g.A.Answers.told c.respond.new.answers c.respond.new.store)
      (string_bytes c.loop-line.reply) c.in_ok-reply.reply c.loop-line.invariant.going c.in-Some.ensures.steps c.in_ok-reply.ensures.responds;
  later = omega (arith, c.loop-line.invariant.later, c.respond.ensures.later);
}
