use Rattle.std.proofs.Common.{◌≡◌, drop}
use Rattle.facet_slots.specs.Flags.{any_flagged}
use Rattle.facet_slots.specs.Lent.{flags_in}
use Rattle.facet_slots.proofs.flags.any_flagged.Given as goal

abbrev pub invariant-loop-read : goal.invariant-loop-read
invariant-loop-read l = any_flagged l.draft.moved (flags_in l.draft.kept) (drop l.read-index l.reads) ≡ any_flagged l.draft.moved (flags_in l.draft.kept) l.reads
