use Rattle.std.proofs.Common.{◌++◌, length, map, ap, sym, subst, ◌∙◌, arith}
use Rattle.range_set.specs.PrivateChunks.{IsChunk, content, flat, shift}
use Rattle.range_set.proofs.Chunks.{AreChunks-push, flat-push, length_shifted}
use Rattle.range_set.proofs.chunk_builder.ChunkBuilder.put_chunk.Goals as goal

pub returns-clause-builder : goal.returns-clause-builder
returns-clause-builder g c =
    let rules = g.T.RangeValue.rules in
    let made = c.in_ok-of.field-0 in
    let ranges = c.in_ok-of.ensures.ranges ∙ c.trim.ensures in
    let n = length_shifted rules c.in-Some.first.now.from (content made).ranges in
    let m = ap length ranges in
    let some = c.in-Some.ensures.item.3.0 in
    let len = ap length c.deref.ensures.value in
    record {
      chunks = rw c.in_ok-push.ensures.items (AreChunks-push rules c.args.self.now.done.items made c.requires.builder.chunks
          (subst (λ k. IsChunk rules k (content made)) (sym c.in_ok-of.ensures.place) c.in_ok-of.ensures.chunk)
          (omega (arith, n, m, some, len)));
    }

pub returns-clause-ranges : goal.returns-clause-ranges
returns-clause-ranges g c =
    let done = c.args.self.now.done.items in
    let made = c.in_ok-of.field-0 in
    ap flat c.in_ok-push.ensures.items ∙ (flat-push done made
    ∙ (ap (λ n. flat done ++ map (shift n) (content made).ranges) c.in_ok-of.ensures.place
    ∙ ap (λ rs. flat done ++ rs) (c.in_ok-of.ensures.ranges ∙ c.trim.ensures)))
