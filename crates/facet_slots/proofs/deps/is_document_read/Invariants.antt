use Rattle.std.proofs.Common.{◌≡◌, drop}
use Rattle.facet_slots.specs.Scenes.{reads_document}
use Rattle.facet_slots.proofs.deps.is_document_read.Given as goal

abbrev pub invariant-loop-read : goal.invariant-loop-read
invariant-loop-read l = reads_document (drop l.read-index l.reads) ≡ reads_document l.reads
