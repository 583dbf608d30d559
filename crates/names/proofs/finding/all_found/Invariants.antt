use Rattle.std.proofs.Common.{◌≡◌, drop}
use Rattle.names.specs.Names.{each_of, found}
use Rattle.names.proofs.Each.{with_prefix}
use Rattle.names.proofs.finding.all_found.Given as goal

abbrev pub invariant-loop-name : goal.invariant-loop-name
invariant-loop-name g l = with_prefix l.ids.items (each_of (found g.S.Sought.as_sort l.names) (drop l.name-index l.wanted)) ≡ each_of (found g.S.Sought.as_sort l.names) l.wanted
