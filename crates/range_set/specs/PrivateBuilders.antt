-- Builders of chunks, of groups and of mapped ranges, as the lists that they put down. Private.
use Rattle.std.specs.Prelude.{◌≡◌, ◌≤◌, ◌<◌, ◌^◌, List, ◌++◌, length}
use Rattle.range_set.specs.Rules.{RangeRules}
use Rattle.range_set.specs.PrivateChunks.{AreChunks, AreGroups, flat, spread}
use Rattle.range_set.specs.declared.ranged.Ranged.{Ranged}
use Rattle.range_set.specs.declared.chunk.Placed.{Placed}
use Rattle.range_set.specs.declared.chunk_builder.ChunkBuilder.{ChunkBuilder}
use Rattle.range_set.specs.declared.group_builder.GroupBuilder.{GroupBuilder}
use Rattle.range_set.specs.declared.mapped_builder.MappedBuilder.{MappedBuilder}

module _ {T : Type 0} where
  -- the ranges of a builder: those of its chunks
  abbrev pub built : ChunkBuilder T → List (Ranged T)
  built b = flat b.done.items

  -- the chunks of a builder of groups
  abbrev pub grouped : GroupBuilder T → List (Placed T)
  grouped b = spread b.done

  -- the ranges that a builder of mapped ranges has put down: those of its groups, and of the chunks after them
  abbrev pub put_down : MappedBuilder T → List (Ranged T)
  put_down b = flat (grouped b.groups) ++ built b.chunks

module _ {T : Type 0} (rules : RangeRules T) where
  -- what a builder of chunks keeps
  pub record IsBuilder (b : ChunkBuilder T) : Type 0 where
    pub chunks : AreChunks rules b.done.items

  -- what a builder of groups keeps
  pub record IsGroupBuilder (b : GroupBuilder T) : Type 0 where
    pub groups : AreGroups rules b.done
    pub full : (1 ≤ b.full) × (b.full ≤ 64)
    pub len : b.len ≡ length (flat (grouped b))
    pub room : length (flat (grouped b)) < 2 ^ 64

  -- what a builder of mapped ranges keeps
  pub record IsMappedBuilder (b : MappedBuilder T) : Type 0 where
    pub groups : IsGroupBuilder b.groups
    pub chunks : IsBuilder b.chunks
