use Rattle.std.proofs.Common.{◌++◌, ◌∙◌, ap}
use Rattle.std.proofs.lemmas.List.{append-nil}
use Rattle.std.specs.List.{concat}
use Rattle.line_tree.proofs.leaf_builder.end_piece.Goals as goal

pub returns-clause-same : goal.returns-clause-same
returns-clause-same c =
    ap (λ r. concat c.push_piece.new.pieces.items ++ r) c.clear.ensures.items ∙ append-nil (concat c.push_piece.new.pieces.items)
    ∙ c.in_ok-push_piece.ensures.value ∙ ap (λ r. concat c.args.pieces.now.items ++ r) c.as_slice.ensures.value
