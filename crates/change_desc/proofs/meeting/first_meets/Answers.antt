use Rattle.change_desc.proofs.RangesMet.{first_meets}
use Rattle.change_desc.proofs.meeting.first_meets.Goals as goal

pub returns-in-Some : goal.returns-in-Some
returns-in-Some c = first_meets c.args.from c.args.to c.in-Some.first.now c.args.ranges.now c.in-Some.ensures.value c.requires.order c.requires.first
