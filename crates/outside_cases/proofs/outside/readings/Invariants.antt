use Rattle.std.proofs.Common.{◌≤◌}
use Rattle.outside_cases.proofs.outside.readings.Given as goal

abbrev pub invariant-loop : goal.invariant-loop
invariant-loop l = l.reader.taken ≤ l.reader.limit
