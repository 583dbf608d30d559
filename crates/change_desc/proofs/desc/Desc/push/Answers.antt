use Rattle.change_desc.proofs.PushedSets.{is_set-pushed}
use Rattle.change_desc.proofs.desc.Desc.push.Goals as goal

pub invariant_of-self-2 : goal.invariant_of-self-2
invariant_of-self-2 c =
    is_set-pushed c.args.self.now c.push_section.new.sections.items c.args.section c.requires.old_fits c.requires.new_fits
    (rw (← c.self.view_is) c.in_ok-push_section.ensures.ok)
