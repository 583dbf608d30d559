use Rattle.std.proofs.Common.{List, true, ap, sym, ◌∙◌}
use Rattle.range_set.specs.Updating.{updated}
use Rattle.range_set.specs.declared.ranged.Ranged.{Ranged}
use Rattle.range_set.proofs.Adding.{no_ranges, updated_none}
use Rattle.range_set.proofs.range_set.RangeSet.with_added.Goals as goal

pub returns-then-is_empty-clause-set : goal.returns-then-is_empty-clause-set
returns-then-is_empty-clause-set g c =
    let rules = g.T.RangeValue.rules in
    let none = no_ranges c.args.add.items _ (sym c.is_empty.ensures ∙ c.if-is_empty.true) c.args.add.ok.0 in
    c.in_ok-try_copy.ensures ∙ (sym (updated_none rules c.args.self.now c.known.ensures.order) ∙ ap (λ (xs : List (Ranged g.row.T.Denot)). updated rules (λ _. true) c.args.self.now xs) (sym none))
