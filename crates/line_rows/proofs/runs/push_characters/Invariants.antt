use Rattle.std.proofs.Common.{◌≡◌, ◌++◌, take, string_bytes}
use Rattle.std.specs.Prelude.{encode_utf8_all}
use Rattle.line_rows.proofs.runs.push_characters.Given as goal

abbrev pub invariant-loop-character : goal.invariant-loop-character
invariant-loop-character l = string_bytes l.text ≡ string_bytes l.fn.text ++ encode_utf8_all (take l.character-index l.characters)
