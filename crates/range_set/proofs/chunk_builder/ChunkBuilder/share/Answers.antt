use Rattle.std.proofs.Common.{◌++◌, ◌≤◌, map, length, sym, ap, subst, ◌∙◌}
use Rattle.range_set.specs.PrivateChunks.{Content, IsChunk, content, flat, shift}
use Rattle.range_set.specs.PrivateBuilders.{built}
use Rattle.range_set.proofs.Chunks.{AreChunks-push, flat-push}
use Rattle.range_set.proofs.chunk_builder.ChunkBuilder.share.Goals as goal

pub returns-clause-ranges : goal.returns-clause-ranges
returns-clause-ranges g c =
    let old = c.args.self.now in
    let made = c.in_ok-at.field-0 in
    ap flat c.in_ok-push.ensures.items ∙ (flat-push old.done.items made
    ∙ (ap (λ n. built old ++ map (shift n) (content made).ranges) c.in_ok-at.ensures.place
    ∙ ap (λ (x : Content g.row.T.Denot). built old ++ map (shift c.args.start) x.ranges) c.in_ok-at.ensures.content))

pub returns-clause-builder : goal.returns-clause-builder
returns-clause-builder g c =
    let rules = g.T.RangeValue.rules in
    let made = c.in_ok-at.field-0 in
    let same = sym c.in_ok-at.ensures.content in
    record {
      chunks = rw c.in_ok-push.ensures.items (AreChunks-push rules c.args.self.now.done.items made c.requires.builder.chunks
          (subst (λ n. IsChunk rules n (content made)) (sym c.in_ok-at.ensures.place) (subst (IsChunk rules c.args.start) same c.requires.chunk))
          (subst (λ (x : Content g.row.T.Denot). 1 ≤ length x.ranges) same c.requires.some));
    }
