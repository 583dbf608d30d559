use Rattle.std.proofs.Common.{◌≡◌, drop, map}
use Rattle.change_desc.specs.Sections.{spelled, new_size}
use Rattle.collab.specs.Lengths.{too_long}
use Rattle.collab.proofs.lengths.first_long.Given as goal

abbrev pub invariant-loop-update : goal.invariant-loop-update
invariant-loop-update l =
    too_long (map (λ u. new_size spelled u.changes) (drop l.update-index l.updates)) ≡ too_long (map (λ u. new_size spelled u.changes) l.updates)
