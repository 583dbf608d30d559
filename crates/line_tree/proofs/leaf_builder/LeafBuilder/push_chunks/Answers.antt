use Rattle.std.proofs.Common.{◌≡◌, ◌++◌, ◌∷◌, ◌-◌, ◌+◌, take, drop, length, ap, ◌∙◌, sym, arith, append_assoc, length-append}
use Rattle.std.proofs.lemmas.List.{drop_more, length-take, length-drop}
use Rattle.std.specs.List.{concat}
use Rattle.line_tree.proofs.Inside.{window}
use Rattle.line_tree.proofs.leaf_builder.LeafBuilder.push_chunks.Goals as goal

pub loop-chunk-preserved : goal.loop-chunk-preserved
loop-chunk-preserved c =
    let ps = c.args.chunks.now in
    let i = c.loop-chunk.chunk-index in
    let v = c.chunk-item.result in
    let rest = concat (drop (i + 1) ps) in
    let now = c.min-now.result in
    let start = c.min-start.result in
    let more : concat (drop i ps) ≡ v ++ rest = ap concat (drop_more ps i v c.loop-chunk-test.true ∙ ap (λ w. w ∷ drop (i + 1) ps) (sym c.chunk-item.is)) in
    let w = window v rest c.loop-chunk.skip c.loop-chunk.left start now (omega (arith, c.len-len.ensures)) (omega (arith, c.len-len.ensures)) in
    let added = c.in_ok-push_chunk_slice.ensures in
    record {
      value = ap (λ r. r ++ take (c.loop-chunk.left - now) (drop (c.loop-chunk.skip - start) rest)) added
          ∙ append_assoc c.loop-chunk.self (take now (drop start v)) (take (c.loop-chunk.left - now) (drop (c.loop-chunk.skip - start) rest))
          ∙ ap (λ r. c.loop-chunk.self ++ r) (sym w ∙ ap (λ r. take c.loop-chunk.left (drop c.loop-chunk.skip r)) (sym more)) ∙ c.loop-chunk.invariant.value;
      within = omega (arith, c.loop-chunk.invariant.within, ap length more, length-append v rest, c.len-len.ensures);
      fits = omega (arith, c.loop-chunk.invariant.fits, ap length added, length-append c.loop-chunk.self (take now (drop start v)), length-take now (drop start v), length-drop start v);
    }
