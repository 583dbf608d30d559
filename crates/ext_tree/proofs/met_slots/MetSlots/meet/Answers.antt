use Rattle.std.proofs.Common.{◌≡◌, ◌∙◌, None, Some, Option, ℕ, true, not, refl, sym, ap}
use Rattle.std.specs.Option.{is_none}
use Rattle.ext_tree.proofs.Marking.{meets}
use Rattle.ext_tree.proofs.met_slots.MetSlots.meet.Goals as goal

is-none : (o : Option ℕ) → is_none o ≡ true → o ≡ None
is-none None e = refl
is-none (Some x) e = cc

pub returns-in_ok-put-clause-firsts : goal.returns-in_ok-put-clause-firsts
returns-in_ok-put-clause-firsts c =
    rw c.in_ok-push.ensures.items
    (meets c.args.tree.now c.args.self.now.nodes.items c.args.self.now.firsts.entries c.put.new.table.entries c.args.node c.in-Some.compartment (sym c.in-Some.ensures)
    (sym (c.requires c.in-Some.compartment) ∙ sym c.first.ensures ∙ is-none c.first.result (ap not c.if-is_none.ensures)) c.requires c.in_ok-put.ensures.here c.in_ok-put.ensures.others)
