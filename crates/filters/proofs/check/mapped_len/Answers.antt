use Rattle.filters.proofs.Totals.{described-old, told-len}
use Rattle.filters.proofs.check.mapped_len.Goals as goal

pub mapped_len-requires : goal.mapped_len-requires
mapped_len-requires c = described-old c.args.second.now c.in_ok-theirs.theirs c.args.mine.now c.in_ok-theirs.ensures c.requires

pub returns : goal.returns
returns c = told-len c.args.second.now c.in_ok-theirs.theirs c.args.mine.now c.mapped_len.result c.in_ok-theirs.ensures c.mapped_len.ensures
