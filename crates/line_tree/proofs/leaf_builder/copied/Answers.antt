use Rattle.std.proofs.Common.{◌∙◌, arith}
use Rattle.std.proofs.lemmas.List.{take_all}
use Rattle.line_tree.proofs.leaf_builder.copied.Goals as goal

pub returns : goal.returns
returns c = c.loop-chunk.invariant ∙ take_all c.loop-chunk.chunk-index c.deref-chunk-items.result.now (omega arith) ∙ c.deref-chunk-items.ensures.value
