use Rattle.std.proofs.Common.{◌≡◌, ◌++◌, ◌-◌}
use Rattle.std.specs.List.{range_with_len}
use Rattle.registry.proofs.parts.ids_between.Given as goal

abbrev pub invariant-loop-id : goal.invariant-loop-id
invariant-loop-id l = l.ids.items ++ range_with_len l.id (l.end - l.id) ≡ range_with_len l.fn.first (l.fn.end - l.fn.first)
