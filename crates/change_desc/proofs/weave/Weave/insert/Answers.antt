use Rattle.change_desc.proofs.Arms.{insert_gap}
use Rattle.change_desc.proofs.weave.Weave.insert.Goals as goal

pub returns : goal.returns
returns c =
    insert_gap c.args.self.now c.gap.new.self c.args.a c.args.b c.is_opened.result c.still_new.result c.requires.inserts c.requires.no_deletion c.requires.tails.0 c.requires.tails.1
    c.is_opened.ensures c.still_new.ensures c.in_ok-gap.ensures.single c.in_ok-gap.ensures.stretch
