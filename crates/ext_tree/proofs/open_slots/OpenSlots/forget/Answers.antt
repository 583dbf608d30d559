use Rattle.std.proofs.Common.{sym}
use Rattle.ext_tree.proofs.Marking.{closes, closes-none, opened}
use Rattle.ext_tree.proofs.open_slots.OpenSlots.forget.Goals as goal

pub lower-requires : goal.lower-requires
lower-requires c =
    opened c.args.tree.now c.args.self.now.path.items c.args.self.now.counts.entries c.args.self.now.counts.entries c.args.node c.in-Some.compartment (sym c.in-Some.ensures) c.requires

pub returns-in-Some-clause-open : goal.returns-in-Some-clause-open
returns-in-Some-clause-open c =
    closes c.args.tree.now c.args.self.now.path.items c.args.self.now.counts.entries c.lower.new.counts.entries c.args.node c.in-Some.compartment (sym c.in-Some.ensures) c.requires c.lower.ensures.here c.lower.ensures.others

pub returns-in_default-clause-open : goal.returns-in_default-clause-open
returns-in_default-clause-open c = closes-none c.args.tree.now c.args.self.now.path.items c.args.self.now.counts.entries c.args.node (sym c.in_default.ensures) c.requires
