use Rattle.change_desc.proofs.Arms.{fresh_kept, fresh_fresh, fresh_opened}
use Rattle.change_desc.proofs.weave.Weave.begin.Goals as goal

pub returns-in_ok-stretch-in-Kept : goal.returns-in_ok-stretch-in-Kept
returns-in_ok-stretch-in-Kept c =
    rw (c.in-Kept.is, c.opened.ensures)
    (fresh_kept c.args.self.now c.stretch.new.self c.args.count c.args.m c.in-Kept.n c.requires.some.0 (rw c.in-Kept.is at c.requires.some.1) c.in_ok-stretch-in-Kept.ensures)

pub returns-in_ok-stretch-in-Fresh : goal.returns-in_ok-stretch-in-Fresh
returns-in_ok-stretch-in-Fresh c =
    rw (c.in-Fresh.is, c.opened-in-Fresh.ensures, c.opened-in-Fresh-2.ensures)
    (fresh_fresh c.args.self.now c.stretch-in-Fresh.new.self c.args.count c.args.m c.in-Fresh.n c.in-Fresh.len c.requires.some.0 (rw c.in-Fresh.is at c.requires.some.1) c.in_ok-stretch-in-Fresh.ensures)

pub returns-in_ok-stretch-in-Opened : goal.returns-in_ok-stretch-in-Opened
returns-in_ok-stretch-in-Opened c =
    rw (c.in-Opened.is, c.opened-in-Opened.ensures, c.opened-in-Opened-2.ensures)
    (fresh_opened c.args.self.now c.stretch-in-Opened.new.self c.args.count c.args.m c.in-Opened.n c.requires.some.0 (rw c.in-Opened.is at c.requires.some.1) c.in_ok-stretch-in-Opened.ensures)
