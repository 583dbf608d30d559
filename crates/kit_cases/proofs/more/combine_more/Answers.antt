use Rattle.kit_cases.proofs.more.combine_more.Goals as goal

pub returns-then-number-eq14 : goal.returns-then-number-eq14
returns-then-number-eq14 c = rw c.if-number-eq14.true c.no_inputs.ensures
