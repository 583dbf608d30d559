use Rattle.shipped_rules.proofs.combining.combine.Goals as goal

pub returns-in-2 : goal.returns-in-2
returns-in-2 c = rw c.in-2.is c.first_or.ensures

pub returns-in-7 : goal.returns-in-7
returns-in-7 c = rw c.in-7.is c.first_or-in-7.ensures

pub returns-in-8 : goal.returns-in-8
returns-in-8 c = rw c.in-8.is c.first_or-in-8.ensures

pub returns-in-13 : goal.returns-in-13
returns-in-13 c = rw c.in-13.is c.first_or-in-13.ensures
