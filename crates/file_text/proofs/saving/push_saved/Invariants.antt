use Rattle.std.proofs.Common.{◌≡◌, ◌++◌, take, string_bytes}
use Rattle.file_text.specs.Files.{saved_bytes}
use Rattle.file_text.proofs.saving.push_saved.Given as goal

abbrev pub invariant-loop-c : goal.invariant-loop-c
invariant-loop-c l = string_bytes l.saved ≡ string_bytes l.initial.saved ++ saved_bytes l.separator (take l.c-index l.characters)
