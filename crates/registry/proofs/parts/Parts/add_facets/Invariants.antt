use Rattle.std.proofs.Common.{◌≡◌, ◌≤◌, ◌+◌, ◌-◌, length, drop}
use Rattle.values.specs.Declarations.{max_count}
use Rattle.registry.specs.Predeclared.{with_facets}
use Rattle.registry.proofs.parts.Parts.add_facets.Given as goal

abbrev pub invariant-loop-def : goal.invariant-loop-def
invariant-loop-def l =
    (with_facets l.self (drop l.def-index l.defs) ≡ with_facets l.fn.self l.defs)
    × (length l.self.facets + (length l.defs - l.def-index) ≤ max_count)
    × (length l.self.fields ≤ max_count)
