use Rattle.std.proofs.Common.{sym, arith}
use Rattle.ext_tree.proofs.Marking.{opens, small}
use Rattle.ext_tree.proofs.open_slots.OpenSlots.enter.Goals as goal

pub raise-requires : goal.raise-requires
raise-requires c =
    small c.args.tree.now c.args.self.now.path.items c.args.self.now.counts.entries c.in-Some.compartment (omega (arith, c.args.self.now.path.small, c.args.self.now.path.ok.0, c.args.self.now.path.ok.1)) c.requires

pub returns-in_ok-raise-clause-open : goal.returns-in_ok-raise-clause-open
returns-in_ok-raise-clause-open c =
    rw c.in_ok-push.ensures.items
    (opens c.args.tree.now c.args.self.now.path.items c.args.self.now.counts.entries c.raise.new.counts.entries c.args.node c.in-Some.compartment (sym c.in-Some.ensures) c.requires c.in_ok-raise.ensures.here c.in_ok-raise.ensures.others)
