use Rattle.std.proofs.Common.{◌≡◌, ◌-◌, ◌≤◌, length, take, string_bytes}
use Rattle.file_text.specs.Files.{saved_bytes}
use Rattle.file_text.proofs.saving.saved_string.Given as goal

abbrev pub invariant-loop-pos : goal.invariant-loop-pos
invariant-loop-pos l = record {
  within : l.pos ≤ length l.text.characters;
  value : string_bytes l.saved ≡ saved_bytes l.separator (take l.pos l.text.characters);
}

abbrev pub decreases-loop-pos : goal.decreases-loop-pos
decreases-loop-pos l = l.len - l.pos
