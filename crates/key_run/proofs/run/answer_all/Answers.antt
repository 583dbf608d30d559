use Rattle.std.proofs.Common.{◌-◌, Some, None, refl, ap, arith}
use Rattle.cm_outside.specs.Progress.{Progress}
use Rattle.key_run.proofs.Running.{begins, ended_of, clock_of, gave_of, past_completes, ends_opening, ends_at_end, ends_at_fault, ends_past, ends_at_key, byte_more, key_more}
use Rattle.key_run.proofs.run.answer_all.Goals as goal

pub returns-in-Err-clause-ended : goal.returns-in-Err-clause-ended
returns-in-Err-clause-ended g c =
    ended_of _ _ _ _ _ _ _ (ends_opening (g.A.AnswersKeys.machine c.args.with.now) (g.S.Source.left c.args.source.now) (g.A.AnswersKeys.told c.args.answers.now c.args.store.now) (g.A.AnswersKeys.told c.open.new.answers c.args.store.now)
    (g.C.Clock.coming c.args.clock.now) (g.K.Sink.held c.args.sink.now) (g.K.Sink.held c.open.new.sink) c.in-Err.status c.args.bytes.limit (g.S.Source.given c.args.source.now - g.S.Source.given c.args.source.now) (omega arith)
    c.in-Err.ensures.ends c.in-Err.ensures.responds)

pub loop-byte-init : goal.loop-byte-init
loop-byte-init g c =
    let new = c.requires.fresh in
    record {
      typing = begins (g.A.AnswersKeys.machine c.args.with.now) (g.S.Source.left c.args.source.now) (g.A.AnswersKeys.told c.args.answers.now c.args.store.now) (g.A.AnswersKeys.told c.open.new.answers c.args.store.now)
          (g.C.Clock.coming c.args.clock.now) (g.K.Sink.held c.args.sink.now) (g.K.Sink.held c.open.new.sink) c.new-keys.result c.args.bytes c.new-keys.ensures.start new c.in_default.ensures.responds;
      within = omega (arith, ap (λ (p : Progress). p.taken) new);
      limit = refl;
      counted = omega (arith, ap (λ (p : Progress). p.taken) new);
      read_later = omega arith;
      write_later = c.open.ensures.later;
      store_later = omega arith;
    }

pub returns-in-End-clause-ended : goal.returns-in-End-clause-ended
returns-in-End-clause-ended g c =
    ended_of _ _ _ _ _ _ _ (ends_at_end (g.A.AnswersKeys.machine c.args.with.now) (g.S.Source.left c.args.source.now) (g.S.Source.left c.loop-byte.source) (g.S.Source.left c.read_byte.new.source) (record {
      first = g.A.AnswersKeys.told c.args.answers.now c.args.store.now;
      now = g.A.AnswersKeys.told c.loop-byte.answers c.loop-byte.store;
      times = g.C.Clock.coming c.args.clock.now;
      times_now = g.C.Clock.coming c.loop-byte.clock;
      held = g.K.Sink.held c.args.sink.now;
      held_now = g.K.Sink.held c.loop-byte.sink;
    })
    c.loop-byte.keys c.loop-byte.bytes c.args.bytes.limit (g.S.Source.given c.read_byte.new.source - g.S.Source.given c.args.source.now) c.loop-byte.invariant.typing (omega (arith, c.loop-byte.invariant.counted, c.read_byte.ensures.counted.1, c.in-End.ensures.takes)) c.in-End.ensures.told)

pub returns-in-End-clause-gave : goal.returns-in-End-clause-gave
returns-in-End-clause-gave g c =
    gave_of _ _ _ _ _ _ _ (ends_at_end (g.A.AnswersKeys.machine c.args.with.now) (g.S.Source.left c.args.source.now) (g.S.Source.left c.loop-byte.source) (g.S.Source.left c.read_byte.new.source) (record {
      first = g.A.AnswersKeys.told c.args.answers.now c.args.store.now;
      now = g.A.AnswersKeys.told c.loop-byte.answers c.loop-byte.store;
      times = g.C.Clock.coming c.args.clock.now;
      times_now = g.C.Clock.coming c.loop-byte.clock;
      held = g.K.Sink.held c.args.sink.now;
      held_now = g.K.Sink.held c.loop-byte.sink;
    })
    c.loop-byte.keys c.loop-byte.bytes c.args.bytes.limit (g.S.Source.given c.read_byte.new.source - g.S.Source.given c.args.source.now) c.loop-byte.invariant.typing (omega (arith, c.loop-byte.invariant.counted, c.read_byte.ensures.counted.1, c.in-End.ensures.takes)) c.in-End.ensures.told)

pub returns-in-End-clause-clock : goal.returns-in-End-clause-clock
returns-in-End-clause-clock g c =
    clock_of _ _ _ _ _ _ _ (ends_at_end (g.A.AnswersKeys.machine c.args.with.now) (g.S.Source.left c.args.source.now) (g.S.Source.left c.loop-byte.source) (g.S.Source.left c.read_byte.new.source) (record {
      first = g.A.AnswersKeys.told c.args.answers.now c.args.store.now;
      now = g.A.AnswersKeys.told c.loop-byte.answers c.loop-byte.store;
      times = g.C.Clock.coming c.args.clock.now;
      times_now = g.C.Clock.coming c.loop-byte.clock;
      held = g.K.Sink.held c.args.sink.now;
      held_now = g.K.Sink.held c.loop-byte.sink;
    })
    c.loop-byte.keys c.loop-byte.bytes c.args.bytes.limit (g.S.Source.given c.read_byte.new.source - g.S.Source.given c.args.source.now) c.loop-byte.invariant.typing (omega (arith, c.loop-byte.invariant.counted, c.read_byte.ensures.counted.1, c.in-End.ensures.takes)) c.in-End.ensures.told)

pub returns-in-Failed-clause-ended : goal.returns-in-Failed-clause-ended
returns-in-Failed-clause-ended g c =
    ended_of _ _ _ _ _ _ _ (ends_at_fault (g.A.AnswersKeys.machine c.args.with.now) (g.S.Source.left c.args.source.now) (g.S.Source.left c.loop-byte.source) (g.S.Source.left c.read_byte.new.source) (record {
      first = g.A.AnswersKeys.told c.args.answers.now c.args.store.now;
      now = g.A.AnswersKeys.told c.loop-byte.answers c.loop-byte.store;
      times = g.C.Clock.coming c.args.clock.now;
      times_now = g.C.Clock.coming c.loop-byte.clock;
      held = g.K.Sink.held c.args.sink.now;
      held_now = g.K.Sink.held c.loop-byte.sink;
    })
    c.loop-byte.keys c.loop-byte.bytes c.args.bytes.limit (g.S.Source.given c.read_byte.new.source - g.S.Source.given c.args.source.now) c.loop-byte.invariant.typing (omega (arith, c.loop-byte.invariant.counted, c.read_byte.ensures.counted.1, c.in-Failed.ensures.takes)) c.in-Failed.ensures.told)

pub returns-in-Failed-clause-gave : goal.returns-in-Failed-clause-gave
returns-in-Failed-clause-gave g c =
    gave_of _ _ _ _ _ _ _ (ends_at_fault (g.A.AnswersKeys.machine c.args.with.now) (g.S.Source.left c.args.source.now) (g.S.Source.left c.loop-byte.source) (g.S.Source.left c.read_byte.new.source) (record {
      first = g.A.AnswersKeys.told c.args.answers.now c.args.store.now;
      now = g.A.AnswersKeys.told c.loop-byte.answers c.loop-byte.store;
      times = g.C.Clock.coming c.args.clock.now;
      times_now = g.C.Clock.coming c.loop-byte.clock;
      held = g.K.Sink.held c.args.sink.now;
      held_now = g.K.Sink.held c.loop-byte.sink;
    })
    c.loop-byte.keys c.loop-byte.bytes c.args.bytes.limit (g.S.Source.given c.read_byte.new.source - g.S.Source.given c.args.source.now) c.loop-byte.invariant.typing (omega (arith, c.loop-byte.invariant.counted, c.read_byte.ensures.counted.1, c.in-Failed.ensures.takes)) c.in-Failed.ensures.told)

pub returns-in-Failed-clause-clock : goal.returns-in-Failed-clause-clock
returns-in-Failed-clause-clock g c =
    clock_of _ _ _ _ _ _ _ (ends_at_fault (g.A.AnswersKeys.machine c.args.with.now) (g.S.Source.left c.args.source.now) (g.S.Source.left c.loop-byte.source) (g.S.Source.left c.read_byte.new.source) (record {
      first = g.A.AnswersKeys.told c.args.answers.now c.args.store.now;
      now = g.A.AnswersKeys.told c.loop-byte.answers c.loop-byte.store;
      times = g.C.Clock.coming c.args.clock.now;
      times_now = g.C.Clock.coming c.loop-byte.clock;
      held = g.K.Sink.held c.args.sink.now;
      held_now = g.K.Sink.held c.loop-byte.sink;
    })
    c.loop-byte.keys c.loop-byte.bytes c.args.bytes.limit (g.S.Source.given c.read_byte.new.source - g.S.Source.given c.args.source.now) c.loop-byte.invariant.typing (omega (arith, c.loop-byte.invariant.counted, c.read_byte.ensures.counted.1, c.in-Failed.ensures.takes)) c.in-Failed.ensures.told)

pub returns-in-Budget-clause-ended : goal.returns-in-Budget-clause-ended
returns-in-Budget-clause-ended g c =
    ended_of _ _ _ _ _ _ _ (ends_past (g.A.AnswersKeys.machine c.args.with.now) (g.S.Source.left c.args.source.now) (g.S.Source.left c.loop-byte.source) (g.S.Source.left c.read_byte.new.source) (record {
      first = g.A.AnswersKeys.told c.args.answers.now c.args.store.now;
      now = g.A.AnswersKeys.told c.loop-byte.answers c.loop-byte.store;
      times = g.C.Clock.coming c.args.clock.now;
      times_now = g.C.Clock.coming c.loop-byte.clock;
      held = g.K.Sink.held c.args.sink.now;
      held_now = g.K.Sink.held c.loop-byte.sink;
    })
    c.loop-byte.keys c.loop-byte.bytes c.args.bytes.limit (g.S.Source.given c.read_byte.new.source - g.S.Source.given c.args.source.now) c.loop-byte.invariant.typing (omega (arith, c.loop-byte.invariant.limit, c.in-Budget.ensures.takes.0)) (omega (arith, c.loop-byte.invariant.limit, c.read_byte.ensures.limit, c.loop-byte.invariant.counted, c.read_byte.ensures.counted.1, c.in-Budget.ensures.takes.0, c.in-Budget.ensures.takes.1)) c.in-Budget.ensures.told)

pub returns-in-Budget-clause-gave : goal.returns-in-Budget-clause-gave
returns-in-Budget-clause-gave g c =
    gave_of _ _ _ _ _ _ _ (ends_past (g.A.AnswersKeys.machine c.args.with.now) (g.S.Source.left c.args.source.now) (g.S.Source.left c.loop-byte.source) (g.S.Source.left c.read_byte.new.source) (record {
      first = g.A.AnswersKeys.told c.args.answers.now c.args.store.now;
      now = g.A.AnswersKeys.told c.loop-byte.answers c.loop-byte.store;
      times = g.C.Clock.coming c.args.clock.now;
      times_now = g.C.Clock.coming c.loop-byte.clock;
      held = g.K.Sink.held c.args.sink.now;
      held_now = g.K.Sink.held c.loop-byte.sink;
    })
    c.loop-byte.keys c.loop-byte.bytes c.args.bytes.limit (g.S.Source.given c.read_byte.new.source - g.S.Source.given c.args.source.now) c.loop-byte.invariant.typing (omega (arith, c.loop-byte.invariant.limit, c.in-Budget.ensures.takes.0)) (omega (arith, c.loop-byte.invariant.limit, c.read_byte.ensures.limit, c.loop-byte.invariant.counted, c.read_byte.ensures.counted.1, c.in-Budget.ensures.takes.0, c.in-Budget.ensures.takes.1)) c.in-Budget.ensures.told)

pub returns-in-Budget-clause-clock : goal.returns-in-Budget-clause-clock
returns-in-Budget-clause-clock g c =
    clock_of _ _ _ _ _ _ _ (ends_past (g.A.AnswersKeys.machine c.args.with.now) (g.S.Source.left c.args.source.now) (g.S.Source.left c.loop-byte.source) (g.S.Source.left c.read_byte.new.source) (record {
      first = g.A.AnswersKeys.told c.args.answers.now c.args.store.now;
      now = g.A.AnswersKeys.told c.loop-byte.answers c.loop-byte.store;
      times = g.C.Clock.coming c.args.clock.now;
      times_now = g.C.Clock.coming c.loop-byte.clock;
      held = g.K.Sink.held c.args.sink.now;
      held_now = g.K.Sink.held c.loop-byte.sink;
    })
    c.loop-byte.keys c.loop-byte.bytes c.args.bytes.limit (g.S.Source.given c.read_byte.new.source - g.S.Source.given c.args.source.now) c.loop-byte.invariant.typing (omega (arith, c.loop-byte.invariant.limit, c.in-Budget.ensures.takes.0)) (omega (arith, c.loop-byte.invariant.limit, c.read_byte.ensures.limit, c.loop-byte.invariant.counted, c.read_byte.ensures.counted.1, c.in-Budget.ensures.takes.0, c.in-Budget.ensures.takes.1)) c.in-Budget.ensures.told)

pub returns-in-Budget-clause-complete : goal.returns-in-Budget-clause-complete
returns-in-Budget-clause-complete g c =
    λ _ _ _. past_completes _ _ _ _ _ _ (ends_past (g.A.AnswersKeys.machine c.args.with.now) (g.S.Source.left c.args.source.now) (g.S.Source.left c.loop-byte.source) (g.S.Source.left c.read_byte.new.source) (record {
      first = g.A.AnswersKeys.told c.args.answers.now c.args.store.now;
      now = g.A.AnswersKeys.told c.loop-byte.answers c.loop-byte.store;
      times = g.C.Clock.coming c.args.clock.now;
      times_now = g.C.Clock.coming c.loop-byte.clock;
      held = g.K.Sink.held c.args.sink.now;
      held_now = g.K.Sink.held c.loop-byte.sink;
    })
    c.loop-byte.keys c.loop-byte.bytes c.args.bytes.limit (g.S.Source.given c.read_byte.new.source - g.S.Source.given c.args.source.now) c.loop-byte.invariant.typing (omega (arith, c.loop-byte.invariant.limit, c.in-Budget.ensures.takes.0)) (omega (arith, c.loop-byte.invariant.limit, c.read_byte.ensures.limit, c.loop-byte.invariant.counted, c.read_byte.ensures.counted.1, c.in-Budget.ensures.takes.0, c.in-Budget.ensures.takes.1)) c.in-Budget.ensures.told)

pub returns-in-Err-press-clause-ended : goal.returns-in-Err-press-clause-ended
returns-in-Err-press-clause-ended g c =
    ended_of _ _ _ _ _ _ _ (ends_at_key (g.A.AnswersKeys.machine c.args.with.now) (g.S.Source.left c.args.source.now) (g.S.Source.left c.read_byte.new.source) (record {
      first = g.A.AnswersKeys.told c.args.answers.now c.args.store.now;
      now = g.A.AnswersKeys.told c.loop-byte.answers c.loop-byte.store;
      times = g.C.Clock.coming c.args.clock.now;
      times_now = g.C.Clock.coming c.loop-byte.clock;
      held = g.K.Sink.held c.args.sink.now;
      held_now = g.K.Sink.held c.loop-byte.sink;
    })
    (g.A.AnswersKeys.told c.press.new.answers c.press.new.store) (g.C.Clock.coming c.press.new.clock) (g.K.Sink.held c.press.new.sink) c.in-Some.key c.feed-key.new.self c.read_byte.new.self c.in-Err-press.status c.args.bytes.limit (g.S.Source.given c.read_byte.new.source - g.S.Source.given c.args.source.now)
    (byte_more (g.A.AnswersKeys.machine c.args.with.now) (g.S.Source.left c.args.source.now) (g.S.Source.left c.loop-byte.source) (g.S.Source.left c.read_byte.new.source) (record {
      first = g.A.AnswersKeys.told c.args.answers.now c.args.store.now;
      now = g.A.AnswersKeys.told c.loop-byte.answers c.loop-byte.store;
      times = g.C.Clock.coming c.args.clock.now;
      times_now = g.C.Clock.coming c.loop-byte.clock;
      held = g.K.Sink.held c.args.sink.now;
      held_now = g.K.Sink.held c.loop-byte.sink;
    })
    c.in-Byte.byte (Some c.in-Some.key) c.loop-byte.keys c.feed-key.new.self c.loop-byte.bytes c.read_byte.new.self c.loop-byte.invariant.typing c.in-Byte.ensures.takes.1 c.in-Byte.ensures.told c.in-Some.ensures.keys)
    (omega (arith, c.loop-byte.invariant.counted, c.read_byte.ensures.counted.1)) c.in-Err-press.ensures.ends c.in-Err-press.ensures.presses c.press.ensures.clock)

pub returns-in-Err-press-clause-gave : goal.returns-in-Err-press-clause-gave
returns-in-Err-press-clause-gave g c =
    gave_of _ _ _ _ _ _ _ (ends_at_key (g.A.AnswersKeys.machine c.args.with.now) (g.S.Source.left c.args.source.now) (g.S.Source.left c.read_byte.new.source) (record {
      first = g.A.AnswersKeys.told c.args.answers.now c.args.store.now;
      now = g.A.AnswersKeys.told c.loop-byte.answers c.loop-byte.store;
      times = g.C.Clock.coming c.args.clock.now;
      times_now = g.C.Clock.coming c.loop-byte.clock;
      held = g.K.Sink.held c.args.sink.now;
      held_now = g.K.Sink.held c.loop-byte.sink;
    })
    (g.A.AnswersKeys.told c.press.new.answers c.press.new.store) (g.C.Clock.coming c.press.new.clock) (g.K.Sink.held c.press.new.sink) c.in-Some.key c.feed-key.new.self c.read_byte.new.self c.in-Err-press.status c.args.bytes.limit (g.S.Source.given c.read_byte.new.source - g.S.Source.given c.args.source.now)
    (byte_more (g.A.AnswersKeys.machine c.args.with.now) (g.S.Source.left c.args.source.now) (g.S.Source.left c.loop-byte.source) (g.S.Source.left c.read_byte.new.source) (record {
      first = g.A.AnswersKeys.told c.args.answers.now c.args.store.now;
      now = g.A.AnswersKeys.told c.loop-byte.answers c.loop-byte.store;
      times = g.C.Clock.coming c.args.clock.now;
      times_now = g.C.Clock.coming c.loop-byte.clock;
      held = g.K.Sink.held c.args.sink.now;
      held_now = g.K.Sink.held c.loop-byte.sink;
    })
    c.in-Byte.byte (Some c.in-Some.key) c.loop-byte.keys c.feed-key.new.self c.loop-byte.bytes c.read_byte.new.self c.loop-byte.invariant.typing c.in-Byte.ensures.takes.1 c.in-Byte.ensures.told c.in-Some.ensures.keys)
    (omega (arith, c.loop-byte.invariant.counted, c.read_byte.ensures.counted.1)) c.in-Err-press.ensures.ends c.in-Err-press.ensures.presses c.press.ensures.clock)

pub returns-in-Err-press-clause-clock : goal.returns-in-Err-press-clause-clock
returns-in-Err-press-clause-clock g c =
    clock_of _ _ _ _ _ _ _ (ends_at_key (g.A.AnswersKeys.machine c.args.with.now) (g.S.Source.left c.args.source.now) (g.S.Source.left c.read_byte.new.source) (record {
      first = g.A.AnswersKeys.told c.args.answers.now c.args.store.now;
      now = g.A.AnswersKeys.told c.loop-byte.answers c.loop-byte.store;
      times = g.C.Clock.coming c.args.clock.now;
      times_now = g.C.Clock.coming c.loop-byte.clock;
      held = g.K.Sink.held c.args.sink.now;
      held_now = g.K.Sink.held c.loop-byte.sink;
    })
    (g.A.AnswersKeys.told c.press.new.answers c.press.new.store) (g.C.Clock.coming c.press.new.clock) (g.K.Sink.held c.press.new.sink) c.in-Some.key c.feed-key.new.self c.read_byte.new.self c.in-Err-press.status c.args.bytes.limit (g.S.Source.given c.read_byte.new.source - g.S.Source.given c.args.source.now)
    (byte_more (g.A.AnswersKeys.machine c.args.with.now) (g.S.Source.left c.args.source.now) (g.S.Source.left c.loop-byte.source) (g.S.Source.left c.read_byte.new.source) (record {
      first = g.A.AnswersKeys.told c.args.answers.now c.args.store.now;
      now = g.A.AnswersKeys.told c.loop-byte.answers c.loop-byte.store;
      times = g.C.Clock.coming c.args.clock.now;
      times_now = g.C.Clock.coming c.loop-byte.clock;
      held = g.K.Sink.held c.args.sink.now;
      held_now = g.K.Sink.held c.loop-byte.sink;
    })
    c.in-Byte.byte (Some c.in-Some.key) c.loop-byte.keys c.feed-key.new.self c.loop-byte.bytes c.read_byte.new.self c.loop-byte.invariant.typing c.in-Byte.ensures.takes.1 c.in-Byte.ensures.told c.in-Some.ensures.keys)
    (omega (arith, c.loop-byte.invariant.counted, c.read_byte.ensures.counted.1)) c.in-Err-press.ensures.ends c.in-Err-press.ensures.presses c.press.ensures.clock)

pub loop-byte-preserved-in_default-press : goal.loop-byte-preserved-in_default-press
loop-byte-preserved-in_default-press g c =
    record {
      typing = key_more (g.A.AnswersKeys.machine c.args.with.now) (g.S.Source.left c.args.source.now) (g.S.Source.left c.read_byte.new.source) (record {
        first = g.A.AnswersKeys.told c.args.answers.now c.args.store.now;
        now = g.A.AnswersKeys.told c.loop-byte.answers c.loop-byte.store;
        times = g.C.Clock.coming c.args.clock.now;
        times_now = g.C.Clock.coming c.loop-byte.clock;
        held = g.K.Sink.held c.args.sink.now;
        held_now = g.K.Sink.held c.loop-byte.sink;
      })
          (g.A.AnswersKeys.told c.press.new.answers c.press.new.store) (g.C.Clock.coming c.press.new.clock) (g.K.Sink.held c.press.new.sink) c.in-Some.key c.feed-key.new.self c.read_byte.new.self (byte_more (g.A.AnswersKeys.machine c.args.with.now) (g.S.Source.left c.args.source.now) (g.S.Source.left c.loop-byte.source) (g.S.Source.left c.read_byte.new.source) (record {
            first = g.A.AnswersKeys.told c.args.answers.now c.args.store.now;
            now = g.A.AnswersKeys.told c.loop-byte.answers c.loop-byte.store;
            times = g.C.Clock.coming c.args.clock.now;
            times_now = g.C.Clock.coming c.loop-byte.clock;
            held = g.K.Sink.held c.args.sink.now;
            held_now = g.K.Sink.held c.loop-byte.sink;
          })
          c.in-Byte.byte (Some c.in-Some.key) c.loop-byte.keys c.feed-key.new.self c.loop-byte.bytes c.read_byte.new.self c.loop-byte.invariant.typing c.in-Byte.ensures.takes.1 c.in-Byte.ensures.told c.in-Some.ensures.keys)
          c.in_default-press.ensures.goes_on c.in_default-press.ensures.presses c.press.ensures.clock;
      within = c.in-Byte.ensures.takes.0;
      limit = omega (arith, c.read_byte.ensures.limit, c.loop-byte.invariant.limit);
      counted = omega (arith, c.loop-byte.invariant.counted, c.read_byte.ensures.counted.1);
      read_later = omega (arith, c.loop-byte.invariant.read_later, c.read_byte.ensures.later);
      write_later = omega (arith, c.loop-byte.invariant.write_later, c.press.ensures.later.0);
      store_later = omega (arith, c.loop-byte.invariant.store_later, c.press.ensures.later.1);
    }

pub loop-byte-preserved : goal.loop-byte-preserved
loop-byte-preserved g c =
    record {
      typing = (byte_more (g.A.AnswersKeys.machine c.args.with.now) (g.S.Source.left c.args.source.now) (g.S.Source.left c.loop-byte.source) (g.S.Source.left c.read_byte.new.source) (record {
        first = g.A.AnswersKeys.told c.args.answers.now c.args.store.now;
        now = g.A.AnswersKeys.told c.loop-byte.answers c.loop-byte.store;
        times = g.C.Clock.coming c.args.clock.now;
        times_now = g.C.Clock.coming c.loop-byte.clock;
        held = g.K.Sink.held c.args.sink.now;
        held_now = g.K.Sink.held c.loop-byte.sink;
      })
          c.in-Byte.byte None c.loop-byte.keys c.feed-key.new.self c.loop-byte.bytes c.read_byte.new.self c.loop-byte.invariant.typing c.in-Byte.ensures.takes.1 c.in-Byte.ensures.told c.in_default-key.ensures.keys);
      within = c.in-Byte.ensures.takes.0;
      limit = omega (arith, c.read_byte.ensures.limit, c.loop-byte.invariant.limit);
      counted = omega (arith, c.loop-byte.invariant.counted, c.read_byte.ensures.counted.1);
      read_later = omega (arith, c.loop-byte.invariant.read_later, c.read_byte.ensures.later);
      write_later = c.loop-byte.invariant.write_later;
      store_later = c.loop-byte.invariant.store_later;
    }
