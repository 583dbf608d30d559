use Rattle.range_set.proofs.WholePages.{grown_more}
use Rattle.range_set.proofs.page_builder.grow.Goals as goal

pub returns-clause-growing : goal.returns-clause-growing
returns-clause-growing g c =
    rw c.in_ok-push.ensures.items (grown_more g.T.RangeValue.rules c.args.start c.args.growing.now.items c.args.placed c.requires.growing c.requires.group c.requires.some c.requires.after c.requires.first c.requires.room)
