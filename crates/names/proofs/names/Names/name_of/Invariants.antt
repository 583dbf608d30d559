use Rattle.std.proofs.Common.{◌≡◌, drop}
use Rattle.names.specs.Names.{name_of}
use Rattle.names.proofs.Entries.{seen}
use Rattle.names.proofs.names.Names.name_of.Given as goal

abbrev pub invariant-loop-place : goal.invariant-loop-place
invariant-loop-place l = name_of l.sort l.id (seen l.self-inside.entries.entries) ≡ name_of l.sort l.id (seen (drop l.place l.self-inside.entries.entries))
