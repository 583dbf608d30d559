use Rattle.std.proofs.Common.{◌≡◌, drop}
use Rattle.filters.specs.Guards.{both, guarding}
use Rattle.filters.proofs.guards.guarding.Given as goal

abbrev pub invariant-loop-number : goal.invariant-loop-number
invariant-loop-number g l =
    both l.said (guarding g.M.Meanings.rules l.filter_data l.transaction (drop l.number-index l.numbers))
    ≡ guarding g.M.Meanings.rules l.filter_data l.transaction l.numbers
