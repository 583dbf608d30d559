use Rattle.std.proofs.Common.{◌≡◌, [], ap, ◌∙◌}
use Rattle.std.specs.Str.{chars}
use Rattle.std.specs.String.{string_bytes}
use Rattle.std.proofs.lemmas.Str.{chars-nil}
use Rattle.line_rows.proofs.runs.Run.empty.Goals as goal

pub returns : goal.returns
returns c =
    let none : chars (string_bytes c.new.result) ≡ [] = ap chars c.new.ensures.bytes ∙ chars-nil in
    λ i. record { text = none i; style = c.args.style }
