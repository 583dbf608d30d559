use Rattle.filters.proofs.RuleNumbers.{numbers-known, reversed-known}
use Rattle.filters.proofs.numbers.lowest_first.Goals as goal

pub returns-clause-numbers : goal.returns-clause-numbers
returns-clause-numbers c = λ count h.
    reversed-known count c.in_ok-numbers.numbers.items c.reverse.new.self.items c.reverse.ensures.items
    (numbers-known count c.args.value.now c.in_ok-numbers.numbers.items c.in_ok-numbers.ensures h)
