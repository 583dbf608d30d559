use Rattle.session.specs.State.{plain_session}
use Rattle.session.proofs.Pressed.{save_written}
use Rattle.session.proofs.session.Session.save_text.Goals as goal

pub returns-in-Ok-clause-saved : goal.returns-in-Ok-clause-saved
returns-in-Ok-clause-saved g c =
    save_written c.args.file.now c.as_slice.result.now (plain_session c.args.self.now) (g.D.Store.files c.args.store.now) (g.D.Store.files c.save.new.self) c.save.result
    (rw (c.as_slice.ensures.value) c.in-Ok.ensures) c.save.ensures.files
