-- Made texts.
use Rattle.std.proofs.Common.{◌≡◌, ℕ, length}
use Rattle.std.proofs.lemmas.List.FromFn.{length-map-range_with_len}
use Rattle.workload.specs.Edits.{character, made_text}

pub made_size : (size c : ℕ) → length (made_text size c) ≡ size
made_size size c = length-map-range_with_len (character c) 0 size
