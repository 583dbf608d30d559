use Rattle.change_desc.proofs.Arms.{delete_gap}
use Rattle.change_desc.proofs.weave.Weave.delete.Goals as goal

pub returns : goal.returns
returns c =
    delete_gap c.args.self.now c.gap.new.self c.args.a c.args.b c.is_opened.result c.still_old.result c.requires.deletes c.requires.tails.0 c.requires.tails.1
    c.is_opened.ensures c.still_old.ensures c.in_ok-gap.ensures.single c.in_ok-gap.ensures.stretch
