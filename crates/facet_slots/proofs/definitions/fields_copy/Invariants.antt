use Rattle.std.proofs.Common.{◌≡◌, take}
use Rattle.facet_slots.proofs.definitions.fields_copy.Given as goal

abbrev pub invariant-loop-field : goal.invariant-loop-field
invariant-loop-field l = l.copy ≡ take l.field-index l.fields
