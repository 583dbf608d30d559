use Rattle.std.proofs.Common.{sym, ◌∙◌}
use Rattle.std.proofs.lemmas.List.{get_or_default}
use Rattle.change_desc.proofs.Loads.{loads_next, is_spent-is}
use Rattle.change_desc.proofs.tail.Tail.load.Goals as goal

pub returns-then-taken-sections : goal.returns-then-taken-sections
returns-then-taken-sections c =
    rw c.of.ensures
    (loads_next c.args.sections.now c.args.self c.args.taken _ c.requires.is_normal c.if-taken-sections.true (get_or_default _ _ _ _ c.if-taken-sections.true)
    (is_spent-is c.args.self (sym c.is_spent.ensures ∙ c.if-is_spent.true)))
