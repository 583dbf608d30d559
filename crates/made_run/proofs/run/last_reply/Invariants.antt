use Rattle.std.proofs.Common.{◌≤◌, string_bytes}
use Rattle.made_run.proofs.LastReplies.{Goes}
use Rattle.made_run.proofs.run.last_reply.Given as goal

abbrev pub invariant-loop-line : goal.invariant-loop-line
invariant-loop-line g l = record {
  going : Goes g.A.Answers.machine l.fn.workload l.line-iterator (g.A.Answers.told l.initial.answers l.initial.store) (g.A.Answers.told l.answers l.store) (string_bytes l.reply);
  later : g.A.Answers.faults l.initial.store ≤ g.A.Answers.faults l.store;
}
