use Rattle.change_set.proofs.Ascending.{total-set}
use Rattle.change_set.proofs.ascent.Ascent.finish.Goals as goal

pub invariant_of-result : goal.invariant_of-result
invariant_of-result c = total-set c.args.self c.push_section.new.sections.items c.requires c.in_ok-push_section.ensures
