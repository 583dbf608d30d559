use Rattle.std.proofs.Common.{◌+◌, ◌-◌, ◌++◌, ◌≤◌, length, map, ap, sym, subst, ◌∙◌}
use Rattle.std.specs.List.{list_any}
use Rattle.change_desc.specs.Ranges.{meets}
use Rattle.range_set.specs.PrivateChunks.{AreChunks, AreChunksShared, Ascend, Content, FitCarriedChunks, IsChunk, content, flat, move, shift}
use Rattle.range_set.specs.PrivateBuilders.{built}
use Rattle.range_set.specs.declared.chunk.Chunk.{Chunk}
use Rattle.range_set.proofs.Carried.{chunks_shared_more}
use Rattle.range_set.proofs.Chunks.{AreChunks-push, ascend-less, flat-push}
use Rattle.range_set.proofs.Groups.{chunk_placed}
use Rattle.range_set.proofs.Walked.{ascend_hull}
use Rattle.range_set.proofs.chunk_builder.ChunkBuilder.share_carried.Goals as goal

pub loop-placed-preserved : goal.loop-placed-preserved
loop-placed-preserved g c =
    let rules = g.T.RangeValue.rules in
    let base = c.args.base in
    let from = c.args.from in
    let to = c.args.to in
    let p = move base c.in-Some.placed.now in
    let others = map (move base) c.in-Some.others.now in
    let at = c.loop-placed.invariant in
    let is = ap (map (move base)) c.in-Some.ensures.cases.0 in
    let chunks = subst (AreChunks rules) is at.chunks in
    let ascend = subst (λ ps. Ascend from (flat ps)) is at.ascend in
    let hull = ascend_hull from p.start (content p).ranges (flat others) chunks.0.1 chunks.0.0.first ascend in
    let turned = sym (ap (λ (x : Chunk g.row.T.Denot). x.is_turned) c.deref.ensures) ∙ c.if-deref.false in
    let met = ap (λ n. list_any (meets from (p.start + n)) c.args.changed.now) (sym c.reach.ensures) ∙ (sym c.first_meets.ensures ∙ c.if-first_meets.false) in
    let fits = (subst (FitCarriedChunks from to c.args.changed.now) is at.fits).0 met in
    let place = p.start - from + to in
    let made = c.in_ok-at.field-0 in
    let value = c.in_ok-at.ensures.content in
    let here = chunk_placed rules p.start place (content p) chunks.0.0 fits in
    record {
      builder = record {
        chunks = rw c.in_ok-push.ensures.items (AreChunks-push rules c.loop-placed.self.done.items made at.builder.chunks
            (subst (λ n. IsChunk rules n (content made)) (sym c.in_ok-at.ensures.place) (subst (IsChunk rules place) (sym value) here))
            (subst (λ (x : Content g.row.T.Denot). 1 ≤ length x.ranges) (sym value) chunks.0.1));
      };
      chunks = chunks.1;
      ascend = ascend-less from p.start (flat others) hull.0 hull.1;
      fits = (subst (FitCarriedChunks from to c.args.changed.now) is at.fits).1;
      shared = chunks_shared_more from to c.args.changed.now (map (move base) c.args.chunks.now) p others (built c.args.self.now) (built c.loop-placed.self) _
          (subst (λ ps. AreChunksShared from to c.args.changed.now (map (move base) c.args.chunks.now) ps (built c.args.self.now) (built c.loop-placed.self)) is at.shared) turned met
          (ap flat c.in_ok-push.ensures.items ∙ (flat-push c.loop-placed.self.done.items made
          ∙ (ap (λ n. built c.loop-placed.self ++ map (shift n) (content made).ranges) c.in_ok-at.ensures.place
          ∙ ap (λ (x : Content g.row.T.Denot). built c.loop-placed.self ++ map (shift place) x.ranges) value)));
    }
