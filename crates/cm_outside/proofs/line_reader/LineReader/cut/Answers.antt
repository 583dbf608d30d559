use Rattle.std.proofs.Common.{sym, ap}
use Rattle.cm_outside.specs.Progress.{Progress}
use Rattle.cm_outside.proofs.Cutting.{cut_at}
use Rattle.cm_outside.proofs.line_reader.LineReader.cut.Goals as goal

pub returns-in_ok-keep-in-Some-clause-cut : goal.returns-in_ok-keep-in-Some-clause-cut
returns-in_ok-keep-in-Some-clause-cut c =
    cut_at c.args.line.now.items c.keep.new.line.items c.self.inside.buffer.items c.deref.result.now c.args.self.now.rest c.split_at.result.0.now c.self.inside.from c.self.inside.to c.in-Some.at
    c.deref.ensures.value (ap (λ (p : Progress). p.rest) (sym c.self.view_is)) c.in-Some.ensures c.split_at.ensures.front c.in_ok-keep-in-Some.ensures
