use Rattle.std.proofs.Common.{◌≡◌, ◌<◌, ℕ, false, get_or}
use Rattle.cm_outside.specs.MemFiles.{FileView, is_named}
use Rattle.cm_outside.proofs.mem_store.place_of.Given as goal

abbrev pub invariant-loop-place : goal.invariant-loop-place
invariant-loop-place l = (k : ℕ) (d : FileView) → k < l.place → is_named l.name (get_or l.files k d) ≡ false
