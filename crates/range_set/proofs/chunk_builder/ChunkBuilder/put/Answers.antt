use Rattle.std.proofs.Common.{ap, ◌∙◌}
use Rattle.range_set.specs.PrivateChunks.{flat}
use Rattle.range_set.proofs.Chunks.{AreChunks-push, flat-push}
use Rattle.range_set.proofs.chunk_builder.ChunkBuilder.put.Goals as goal

pub returns-clause-ranges : goal.returns-clause-ranges
returns-clause-ranges g c = ap flat c.in_ok-push.ensures.items ∙ flat-push c.args.self.now.done.items c.args.placed

pub returns-clause-builder : goal.returns-clause-builder
returns-clause-builder g c = record {
  chunks = rw c.in_ok-push.ensures.items (AreChunks-push g.T.RangeValue.rules c.args.self.now.done.items c.args.placed c.requires.builder.chunks c.requires.chunk c.requires.some);
}
