use Rattle.std.proofs.Common.{◌≡◌, ◌+◌, ◌≤◌, [], IfSome}
use Rattle.cm_outside.specs.Progress.{to_come}
use Rattle.key_run.proofs.Running.{Typing}
use Rattle.key_run.proofs.run.answer_all.Given as goal

abbrev pub invariant-loop-byte : goal.invariant-loop-byte
invariant-loop-byte g l = record {
  typing : IfSome (g.S.Source.left l.fn.source) (λ input. Typing (g.A.AnswersKeys.machine l.fn.with) input (g.S.Source.left l.source) (record {
    first = g.A.AnswersKeys.told l.fn.answers l.fn.store;
    now = g.A.AnswersKeys.told l.answers l.store;
    times = g.C.Clock.coming l.fn.clock;
    times_now = g.C.Clock.coming l.clock;
    held = g.K.Sink.held l.fn.sink;
    held_now = g.K.Sink.held l.sink;
  }) [] l.keys l.bytes);
  within : l.bytes.taken ≤ l.bytes.limit;
  limit : l.bytes.limit ≡ l.fn.bytes.limit;
  counted : g.S.Source.given l.source ≡ g.S.Source.given l.fn.source + l.bytes.taken;
  read_later : g.S.Source.faults l.fn.source ≤ g.S.Source.faults l.source;
  write_later : g.K.Sink.faults l.fn.sink ≤ g.K.Sink.faults l.sink;
  store_later : g.A.AnswersKeys.faults l.fn.store ≤ g.A.AnswersKeys.faults l.store;
}

abbrev pub decreases-loop-byte : goal.decreases-loop-byte
decreases-loop-byte g l = to_come l.bytes
