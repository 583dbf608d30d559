use Rattle.facet_slots.specs.Agreement.{IsGrown}
use Rattle.facet_slots.specs.Lent.{definitions}
use Rattle.state_cases.proofs.running.counted.Given as goal

abbrev pub invariant-loop-sent : goal.invariant-loop-sent
invariant-loop-sent g l = IsGrown l.state.setup.defs (definitions l.registry)
