use Rattle.std.proofs.Common.{◌≡◌}
use Rattle.workload.specs.Edits.{made_text}
use Rattle.made_requests.proofs.inserted.made_text.Given as goal

abbrev pub invariant-loop-index : goal.invariant-loop-index
invariant-loop-index l = l.chars.items ≡ made_text l.index l.letter
