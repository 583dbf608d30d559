use Rattle.std.proofs.Common.{◌≡◌, ◌++◌, drop, map}
use Rattle.change_desc.specs.Sections.{spelled, new_size, old_size}
use Rattle.collab.specs.Updates.{LeadOn}
use Rattle.collab.specs.Lengths.{too_long}
use Rattle.collab.specs.Clients.{crossed}
use Rattle.collab.proofs.crossing.all_crossed.Given as goal

abbrev pub invariant-loop-update : goal.invariant-loop-update
invariant-loop-update l = record {
  leads : LeadOn (old_size l.over) (drop l.update-index l.updates);
  mapped : l.mapped.items ++ (crossed l.over (drop l.update-index l.updates)).updates ≡ (crossed l.taken l.updates).updates;
  goes : (crossed l.over (drop l.update-index l.updates)).taken ≡ (crossed l.taken l.updates).taken;
  long : too_long (map (λ u. new_size spelled u.changes) (crossed l.over (drop l.update-index l.updates)).updates) ≡ too_long (map (λ u. new_size spelled u.changes) (crossed l.taken l.updates).updates);
}
