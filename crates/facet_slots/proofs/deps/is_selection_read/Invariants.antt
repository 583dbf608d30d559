use Rattle.std.proofs.Common.{◌≡◌, drop}
use Rattle.facet_slots.specs.Scenes.{reads_selection}
use Rattle.facet_slots.proofs.deps.is_selection_read.Given as goal

abbrev pub invariant-loop-read : goal.invariant-loop-read
invariant-loop-read l = reads_selection (drop l.read-index l.reads) ≡ reads_selection l.reads
