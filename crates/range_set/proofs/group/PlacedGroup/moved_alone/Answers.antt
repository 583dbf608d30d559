use Rattle.std.proofs.Common.{◌≡◌, ℕ, ◌-◌, [], ◌∷◌, map, Some, ap, sym, subst, ◌∙◌, arith}
use Rattle.std.specs.Prelude.{IfSome}
use Rattle.change_desc.specs.Sections.{old_size}
use Rattle.range_set.specs.Mapping.{EndWithin}
use Rattle.range_set.specs.PrivateChunks.{IsChunk, group_content, group_stretch, shift, stretch}
use Rattle.range_set.specs.PrivateMoving.{IsGroupMovedAlone, IsMovedAlone}
use Rattle.range_set.specs.declared.chunk.Chunk.{Chunk}
use Rattle.range_set.specs.declared.group.Group.{Group}
use Rattle.range_set.proofs.Alone.{one_item}
use Rattle.range_set.proofs.GroupsAlone.{only_chunk, only_moves}
use Rattle.range_set.proofs.group.PlacedGroup.moved_alone.Goals as goal

pub ends_alone-requires-clause-chunk : goal.ends_alone-requires-clause-chunk
ends_alone-requires-clause-chunk g c =
    let rules = g.T.RangeValue.rules in
    let of = c.args.self.now in
    let only = c.only-item.result in
    let raw = c.as_slice.ensures.value ∙ ap (λ (x : Group g.row.T.Denot). x.chunks.items) c.deref.ensures in
    let least = c.in-len1.len_at_least in
    let most = c.in-len1.len_below in
    let items : of.group.value.chunks.items ≡ only ∷ [] = sym raw ∙ one_item c.as_slice.result.now only (omega (arith, least)) (omega (arith, most)) c.only-item.is in
    let here = only_chunk rules c.args.start of.grown of.group.value only items c.requires.group (let k = c.if-only-ne0.false in omega (arith, k)) (let k = c.if-only-ne0-2.false in omega (arith, k)) in
    subst (λ (x : Chunk g.row.T.Denot). IsChunk rules c.args.start (stretch of.grown x)) (sym c.deref-2.ensures) here.chunk

pub ends_alone-requires-clause-inside : goal.ends_alone-requires-clause-inside
ends_alone-requires-clause-inside g c =
    let rules = g.T.RangeValue.rules in
    let of = c.args.self.now in
    let only = c.only-item.result in
    let raw = c.as_slice.ensures.value ∙ ap (λ (x : Group g.row.T.Denot). x.chunks.items) c.deref.ensures in
    let least = c.in-len1.len_at_least in
    let most = c.in-len1.len_below in
    let items : of.group.value.chunks.items ≡ only ∷ [] = sym raw ∙ one_item c.as_slice.result.now only (omega (arith, least)) (omega (arith, most)) c.only-item.is in
    let here = only_chunk rules c.args.start of.grown of.group.value only items c.requires.group (let k = c.if-only-ne0.false in omega (arith, k)) (let k = c.if-only-ne0-2.false in omega (arith, k)) in
    subst (λ (x : Chunk g.row.T.Denot). EndWithin (old_size c.args.walk.now.walker.desc) (map (shift c.args.start) (stretch of.grown x).ranges)) (sym c.deref-2.ensures)
    (subst (EndWithin (old_size c.args.walk.now.walker.desc)) here.ranges c.requires.inside)

pub returns-clause-moved : goal.returns-clause-moved
returns-clause-moved g c =
    let rules = g.T.RangeValue.rules in
    let of = c.args.self.now in
    let only = c.only-item.result in
    let raw = c.as_slice.ensures.value ∙ ap (λ (x : Group g.row.T.Denot). x.chunks.items) c.deref.ensures in
    let least = c.in-len1.len_at_least in
    let most = c.in-len1.len_below in
    let items : of.group.value.chunks.items ≡ only ∷ [] = sym raw ∙ one_item c.as_slice.result.now only (omega (arith, least)) (omega (arith, most)) c.only-item.is in
    let here = only_chunk rules c.args.start of.grown of.group.value only items c.requires.group (let k = c.if-only-ne0.false in omega (arith, k)) (let k = c.if-only-ne0-2.false in omega (arith, k)) in
    let from = c.in-Some.from in
    let to = c.in-Some.to in
    let d = c.args.walk.now.walker.desc in
    let told : IfSome {T = ℕ × ℕ} (Some (from, to)) (λ ends. IsMovedAlone rules d c.args.start (stretch of.grown c.deref-2.result.now) ends.0 (stretch (ends.1 - ends.0) c.deref-2.result.now)) =
    subst (λ o. IfSome {T = ℕ × ℕ} o (λ ends. IsMovedAlone rules d c.args.start (stretch of.grown c.deref-2.result.now) ends.0 (stretch (ends.1 - ends.0) c.deref-2.result.now))) c.in-Some.is c.ends_alone.ensures.moved in
    let alone = subst (λ (x : Chunk g.row.T.Denot). IsMovedAlone rules d c.args.start (stretch of.grown x) from (stretch (to - from) x)) c.deref-2.ensures told in
    subst (λ (x : Group g.row.T.Denot). IsGroupMovedAlone rules d c.args.start (group_content of) from (group_stretch (to - from) x)) (sym c.in_ok-group.ensures.cases)
    (only_moves rules d c.args.start from of.grown (to - from) of.group.value only here alone)
