use Rattle.std.proofs.Common.{◌++◌, ◌∙◌, ap}
use Rattle.std.specs.List.{concat}
use Rattle.line_tree.proofs.Concats.{all_ended}
use Rattle.line_tree.proofs.leaf_builder.end_chunk.Goals as goal

pub returns-clause-same : goal.returns-clause-same
returns-clause-same c =
    let cs = concat c.args.chunks.now.items in
    all_ended (concat c.push_chunk.new.chunks.items) c.clear.new.self.items c.clear-2.new.self.items c.clear.ensures.items c.clear-2.ensures.items
    ∙ c.in_ok-push_chunk.ensures.value
    ∙ ap (λ ps. cs ++ (concat ps ++ c.as_slice-2.result.now)) c.as_slice.ensures.value
    ∙ ap (λ r. cs ++ (concat c.args.pieces.now.items ++ r)) c.as_slice-2.ensures.value
