use Rattle.std.proofs.Common.{rules}
use Rattle.change_desc.proofs.Arms.{opened_kept, opened_fresh, opened_opened}
use Rattle.change_desc.proofs.weave.Weave.go_on.Goals as goal

pub returns-in_ok-stretch-in-Kept : goal.returns-in_ok-stretch-in-Kept
returns-in_ok-stretch-in-Kept c =
    rw (c.in-Kept.is, c.opened.ensures)
    (opened_kept c.args.self.now c.stretch.new.self c.args.m c.in-Kept.n c.min-both.result (search rules) (search rules) (search rules) c.in_ok-stretch-in-Kept.ensures)

pub returns-in_ok-stretch-in-Fresh : goal.returns-in_ok-stretch-in-Fresh
returns-in_ok-stretch-in-Fresh c =
    rw (c.in-Fresh.is, c.opened-in-Fresh.ensures, c.opened-in-Fresh-2.ensures)
    (opened_fresh c.args.self.now c.stretch-in-Fresh.new.self c.args.m c.in-Fresh.n c.in-Fresh.len c.requires.some.0 (rw c.in-Fresh.is at c.requires.some.1) c.in_ok-stretch-in-Fresh.ensures)

pub returns-in-Opened : goal.returns-in-Opened
returns-in-Opened c =
    rw (c.in-Opened.is, c.opened-in-Opened.ensures, c.opened-in-Opened-2.ensures)
    (opened_opened c.args.self.now c.args.m c.in-Opened.n c.min-both-in-Opened.result c.requires.is_normal (search rules) (search rules) (search rules))
