use Rattle.std.proofs.Common.{ℕ, List, ◌-◌, ap, drop, take, ◌∙◌}
use Rattle.std.proofs.lemmas.Result.{IfOk-weaker}
use Rattle.cells.proofs.Layouts.{chars-from_bytes}
use Rattle.pieces.proofs.block_pieces.slice_text.Goals as goal

pub returns : goal.returns
returns c =
    let left = c.skip.ensures ∙ ap (drop c.args.from) c.new-cursor.ensures in
    IfOk-weaker c.next_string.result _ _
    (λ s read. chars-from_bytes s _ read ∙ ap (λ (cs : List ℕ). take (c.args.to - c.args.from) cs) left) c.next_string.ensures.string
