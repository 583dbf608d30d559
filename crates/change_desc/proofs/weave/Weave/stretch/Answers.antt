use Rattle.std.proofs.Common.{◌+◌, arith, refl}
use Rattle.change_desc.proofs.Weaves.{takes_start, takes_on}
use Rattle.change_desc.proofs.weave.Weave.stretch.Goals as goal
use Rattle.change_desc.proofs.weave.Weave.stretch.Goals.{then-starts+in_ok-flush, else-starts}

pub returns : goal.returns
returns c =
    elim c.if-starts.branch [
      | then-starts+in_ok-flush w ↦
          rw (w.self-is, w.if-starts.true)
          (takes_start c.args.self.now
          (record { sections = w.flush.new.self.sections; count = w.flush.new.self.count + c.args.count; len = w.flush.new.self.len + c.args.len })
          c.args.count c.args.len w.in_ok-flush.ensures.0 (omega (arith, w.in_ok-flush.ensures.1)) (omega (arith, w.in_ok-flush.ensures.2)))
      | else-starts w ↦
          rw (w.self-is, w.if-starts.false)
          (takes_on c.args.self.now
          (record { sections = c.args.self.now.sections; count = c.args.self.now.count + c.args.count; len = c.args.self.now.len + c.args.len })
          c.args.count c.args.len c.requires.is_normal refl refl refl)
    ]
