use Rattle.std.proofs.Common.{◌++◌, ◌∙◌, ap}
use Rattle.std.specs.List.{concat}
use Rattle.line_tree.proofs.Concats.{concat_push}
use Rattle.line_tree.proofs.leaf_builder.push_chunk.Goals as goal

pub returns-clause-value : goal.returns-clause-value
returns-clause-value c =
    ap concat c.in_ok-push.ensures.items ∙ concat_push c.args.chunks.now.items c.in_ok-chunk.chunk ∙ ap (λ r. concat c.args.chunks.now.items ++ r) c.in_ok-chunk.ensures
