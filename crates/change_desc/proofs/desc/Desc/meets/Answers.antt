use Rattle.std.proofs.Common.{subst, sym, ◌∙◌}
use Rattle.change_desc.specs.Meeting.{BeginAfter}
use Rattle.change_desc.proofs.RangesMet.{replaced-begin}
use Rattle.change_desc.proofs.desc.Desc.meets.Goals as goal

pub some_meet-requires-clause-order : goal.some_meet-requires-clause-order
some_meet-requires-clause-order c = subst (BeginAfter 0) (sym (c.deref.ensures ∙ c.in_ok-ranges.ensures)) (replaced-begin 0 0 c.args.self.now)

pub some_meet-requires-clause-others : goal.some_meet-requires-clause-others
some_meet-requires-clause-others c = subst (BeginAfter 0) (sym (c.deref-2.ensures ∙ c.in_ok-others.ensures)) (replaced-begin 0 0 c.args.other.now)
