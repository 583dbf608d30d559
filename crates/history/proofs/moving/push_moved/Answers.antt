use Rattle.std.proofs.Common.{sym, subst}
use Rattle.history.specs.PrivateMoved.{MovesTo, PutsSome}
use Rattle.history.proofs.Moved.{puts-change}
use Rattle.history.proofs.moving.push_moved.Goals as goal

pub returns : goal.returns
returns c =
    subst (λ x. PutsSome c.args.over x c.args.items.now.items c.push_kept.new.items.items c.in-Some.moved.after) (sym c.in-Change.is)
    (puts-change c.args.over c.in-Change.change c.in-Some.moved c.args.items.now.items c.push_kept.new.items.items
    (subst (MovesTo c.args.over c.in-Change.change) c.in-Some.is c.in_ok-over-in-Change.ensures) c.in_ok-push_kept-in-Some.ensures)
