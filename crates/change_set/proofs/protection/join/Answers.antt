use Rattle.change_set.proofs.Runs.{joins_longer, joins_more}
use Rattle.change_set.proofs.protection.join.Goals as goal

pub returns-in_ok-push-in-Some : goal.returns-in_ok-push-in-Some
returns-in_ok-push-in-Some c =
    rw (c.in_ok-push-in-Some.ensures.items, c.max.ensures)
    (joins_longer c.args.joined.now.items c.pop.new.self.items c.in-Some.last c.args.range.from c.args.range.to c.in-Some.ensures.items c.requires.apart c.requires.starts c.if-range-last.true)

pub returns-in_ok-push-in-Some-3 : goal.returns-in_ok-push-in-Some-3
returns-in_ok-push-in-Some-3 c =
    rw (c.in_ok-push-in-Some-3.ensures.items, c.in_ok-push-in-Some-2.ensures.items)
    (joins_more c.args.joined.now.items c.pop.new.self.items c.in-Some.last c.args.range.from c.args.range.to c.in-Some.ensures.items c.requires.apart c.if-range-last.false c.if-range.false)
