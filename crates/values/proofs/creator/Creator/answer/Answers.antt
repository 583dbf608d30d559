use Rattle.std.proofs.Common.{subst}
use Rattle.values.proofs.Answered.{if_ok}
use Rattle.values.proofs.creator.Creator.answer.Goals as goal

-- what is behind the box is the stored rule
pub returns : goal.returns
returns g c =
    if_ok _ _ (c.requires.meant.gives c.args.deps c.call.result c.requires.known
    (subst (λ q. (g.dyn-1.0.entry q.0).1.post q.1 (c.args.deps, tt) c.call.result) c.deref_box-1.ensures.1 c.call.ensures.0))
