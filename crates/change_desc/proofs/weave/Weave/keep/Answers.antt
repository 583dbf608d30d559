use Rattle.std.proofs.Common.{rules}
use Rattle.change_desc.proofs.Arms.{kept_kept, kept_opened}
use Rattle.change_desc.proofs.weave.Weave.keep.Goals as goal

pub returns-in_ok-single-in-Kept : goal.returns-in_ok-single-in-Kept
returns-in_ok-single-in-Kept c =
    rw c.in-Kept.is
    (kept_kept c.args.self.now c.single.new.self c.args.m c.in-Kept.n c.min-both.result (search rules) (search rules) (search rules) c.in_ok-single-in-Kept.ensures)

pub returns-in_ok-stretch-in-Opened : goal.returns-in_ok-stretch-in-Opened
returns-in_ok-stretch-in-Opened c =
    rw (c.in-Opened.is, c.opened-in-Opened.ensures)
    (kept_opened c.args.self.now c.stretch-in-Opened.new.self c.args.m c.in-Opened.n c.min-both-in-Opened.result (search rules) (search rules) (search rules) c.in_ok-stretch-in-Opened.ensures)
