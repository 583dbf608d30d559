use Rattle.std.proofs.Common.{◌≡◌, drop, length}
use Rattle.collab.specs.Updates.{applied, LeadOn}
use Rattle.collab.proofs.lengths.applied.Given as goal

abbrev pub invariant-loop-update : goal.invariant-loop-update
invariant-loop-update l = record {
  leads : LeadOn (length l.all.characters) (drop l.update-index l.updates);
  goes : applied (drop l.update-index l.updates) l.all.characters ≡ applied l.updates l.text.characters;
}
