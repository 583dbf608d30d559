use Rattle.std.proofs.Common.{drop}
use Rattle.registry.proofs.Providing.{IsUnderWay}
use Rattle.registry.proofs.registry.Registry.inputs_from.Given as goal

abbrev pub invariant-loop-provided : goal.invariant-loop-provided
invariant-loop-provided g l = IsUnderWay g.M.Meanings.rules l.fn.self l.field l.fn.provides l.self (drop l.provided-index l.provides)
