use Rattle.std.proofs.Common.{arith}
use Rattle.session.proofs.Carrying.{carried_alone, inner_of, never_failed}
use Rattle.session.proofs.session.Session.request.Goals as goal

pub returns-in_default : goal.returns-in_default
returns-in_default g c = record {
  carried = carried_alone g.M.Meanings.rules c.args.request c.args.self.now c.inner.new.self (g.D.Store.files c.args.store.now) c.inner.result c.told.result
      (inner_of c.args.request c.in_default.not-Open c.in_default.not-Save) c.inner.ensures c.told.ensures;
  later = omega arith;
  cause = λ failed. absurd (never_failed c.inner.result c.told.result c.told.ensures failed);
}
