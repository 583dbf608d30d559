use Rattle.cm_outside.specs.Sink.{sink_told}
use Rattle.cm_outside.specs.Source.{source_told}
use Rattle.session.specs.Editing.{Edit}
use Rattle.session.specs.State.{plain_session}
use Rattle.session.proofs.Edits.{edit_typed, edit_unbegun, edit_unread}
use Rattle.session.proofs.editing.edit.Goals as goal

pub returns-in-Err : goal.returns-in-Err
returns-in-Err g c =
    edit_unread g.M.Meanings.rules (record { file = c.args.file.now; rows = c.args.rows; cols = c.args.cols }) (g.D.Store.files c.args.store.now) (g.D.Store.files c.load_text.new.store)
    (g.D.Store.faults c.args.store.now) (g.D.Store.faults c.load_text.new.store) (g.C.Clock.coming c.args.clock.now) c.in-Err.status c.args.limit
    (source_told g.S.Source.left g.S.Source.given g.S.Source.faults c.args.source.now) (sink_told g.K.Sink.held g.K.Sink.faults c.args.sink.now)
    c.in-Err.ensures.files c.in-Err.ensures.ends c.in-Err.ensures.later

pub returns-in-Ok-begun : goal.returns-in-Ok-begun
returns-in-Ok-begun g c =
    let e : Edit = record { file = c.args.file.now; rows = c.args.rows; cols = c.args.cols } in
    edit_typed g.M.Meanings.rules e (g.D.Store.files c.args.store.now) (g.D.Store.files c.load_text.new.store) (g.D.Store.faults c.args.store.now) (g.D.Store.faults c.load_text.new.store)
    (record { files = g.D.Store.files c.typed.new.store; faults = g.D.Store.faults c.typed.new.store }) (g.C.Clock.coming c.args.clock.now) (g.C.Clock.coming c.typed.new.clock) c.typed.result
    (record {
      limit = c.args.limit;
      source = source_told g.S.Source.left g.S.Source.given g.S.Source.faults c.args.source.now;
      source_now = source_told g.S.Source.left g.S.Source.given g.S.Source.faults c.typed.new.source;
      sink = sink_told g.K.Sink.held g.K.Sink.faults c.args.sink.now;
      sink_now = sink_told g.K.Sink.held g.K.Sink.faults c.typed.new.sink;
    })
    c.in-Ok.text (plain_session c.in-Ok-begun.session) c.in-Ok.ensures.files c.in-Ok.ensures.later c.in-Ok-begun.ensures c.typed.ensures

pub returns-in-Err-begun : goal.returns-in-Err-begun
returns-in-Err-begun g c =
    edit_unbegun g.M.Meanings.rules (record { file = c.args.file.now; rows = c.args.rows; cols = c.args.cols }) (g.D.Store.files c.args.store.now) (g.D.Store.files c.load_text.new.store)
    (g.D.Store.faults c.args.store.now) (g.D.Store.faults c.load_text.new.store) (g.C.Clock.coming c.args.clock.now) c.args.limit
    (source_told g.S.Source.left g.S.Source.given g.S.Source.faults c.args.source.now) (sink_told g.K.Sink.held g.K.Sink.faults c.args.sink.now)
    c.in-Ok.text c.in-Ok.ensures.files c.in-Ok.ensures.later
