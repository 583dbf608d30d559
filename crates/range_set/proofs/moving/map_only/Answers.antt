use Rattle.std.proofs.Common.{◌≡◌, ◌++◌, [], ◌∷◌, List, filter_map, ap, sym, subst, ◌∙◌, arith}
use Rattle.std.specs.Prelude.{IfOk}
use Rattle.change_desc.specs.Sections.{old_size}
use Rattle.range_set.specs.Mapping.{EndWithin, moved}
use Rattle.range_set.specs.PrivateChunks.{Ascend}
use Rattle.range_set.specs.declared.group.Group.{Group}
use Rattle.range_set.specs.declared.ranged.Ranged.{Ranged}
use Rattle.range_set.proofs.Alone.{one_item}
use Rattle.range_set.proofs.GroupsAlone.{lone_chunk}
use Rattle.range_set.proofs.moving.map_only.Goals as goal

pub overflow_add-only-2 : goal.overflow_add-only-2
overflow_add-only-2 g c =
    let rules = g.T.RangeValue.rules in
    let start = c.args.start in
    let of = c.args.placed.now in
    let only = c.only-item.result in
    let raw = c.as_slice.ensures.value ∙ ap (λ (x : Group g.row.T.Denot). x.chunks.items) c.deref.ensures in
    let least = c.in-len1.len_at_least in
    let most = c.in-len1.len_below in
    let items : of.group.value.chunks.items ≡ only ∷ [] = sym raw ∙ one_item c.as_slice.result.now only (omega (arith, least)) (omega (arith, most)) c.only-item.is in
    let here = lone_chunk rules start of.grown of.group.value only items c.requires.group in
    let fits = here.chunk.fits in
    omega (arith, fits)

pub map_each-requires-clause-chunk : goal.map_each-requires-clause-chunk
map_each-requires-clause-chunk g c =
    let rules = g.T.RangeValue.rules in
    let start = c.args.start in
    let of = c.args.placed.now in
    let only = c.only-item.result in
    let raw = c.as_slice.ensures.value ∙ ap (λ (x : Group g.row.T.Denot). x.chunks.items) c.deref.ensures in
    let least = c.in-len1.len_at_least in
    let most = c.in-len1.len_below in
    let items : of.group.value.chunks.items ≡ only ∷ [] = sym raw ∙ one_item c.as_slice.result.now only (omega (arith, least)) (omega (arith, most)) c.only-item.is in
    let here = lone_chunk rules start of.grown of.group.value only items c.requires.group in
    here.chunk

pub map_each-requires-clause-inside : goal.map_each-requires-clause-inside
map_each-requires-clause-inside g c =
    let rules = g.T.RangeValue.rules in
    let start = c.args.start in
    let of = c.args.placed.now in
    let only = c.only-item.result in
    let raw = c.as_slice.ensures.value ∙ ap (λ (x : Group g.row.T.Denot). x.chunks.items) c.deref.ensures in
    let least = c.in-len1.len_at_least in
    let most = c.in-len1.len_below in
    let items : of.group.value.chunks.items ≡ only ∷ [] = sym raw ∙ one_item c.as_slice.result.now only (omega (arith, least)) (omega (arith, most)) c.only-item.is in
    let here = lone_chunk rules start of.grown of.group.value only items c.requires.group in
    subst (EndWithin (old_size c.args.walk.now.walker.desc)) here.ranges c.requires.inside

pub map_each-requires-clause-ascending : goal.map_each-requires-clause-ascending
map_each-requires-clause-ascending g c =
    let rules = g.T.RangeValue.rules in
    let start = c.args.start in
    let of = c.args.placed.now in
    let only = c.only-item.result in
    let raw = c.as_slice.ensures.value ∙ ap (λ (x : Group g.row.T.Denot). x.chunks.items) c.deref.ensures in
    let least = c.in-len1.len_at_least in
    let most = c.in-len1.len_below in
    let items : of.group.value.chunks.items ≡ only ∷ [] = sym raw ∙ one_item c.as_slice.result.now only (omega (arith, least)) (omega (arith, most)) c.only-item.is in
    let here = lone_chunk rules start of.grown of.group.value only items c.requires.group in
    subst (Ascend c.args.walk.now.walker.reached) here.ranges c.requires.ascending

pub returns-clause-run : goal.returns-clause-run
returns-clause-run g c =
    let rules = g.T.RangeValue.rules in
    let start = c.args.start in
    let of = c.args.placed.now in
    let only = c.only-item.result in
    let raw = c.as_slice.ensures.value ∙ ap (λ (x : Group g.row.T.Denot). x.chunks.items) c.deref.ensures in
    let least = c.in-len1.len_at_least in
    let most = c.in-len1.len_below in
    let items : of.group.value.chunks.items ≡ only ∷ [] = sym raw ∙ one_item c.as_slice.result.now only (omega (arith, least)) (omega (arith, most)) c.only-item.is in
    let here = lone_chunk rules start of.grown of.group.value only items c.requires.group in
    let d = c.args.walk.now.walker.desc in
    subst (λ (rs : List (Ranged g.row.T.Denot)). IfOk c.map_each.result (λ _. c.map_each.new.run.items ≡ c.args.run.now.items ++ filter_map (moved rules d) rs)) (sym here.ranges) c.map_each.ensures.run

pub returns-clause-walk : goal.returns-clause-walk
returns-clause-walk g c =
    let rules = g.T.RangeValue.rules in
    let start = c.args.start in
    let of = c.args.placed.now in
    let only = c.only-item.result in
    let raw = c.as_slice.ensures.value ∙ ap (λ (x : Group g.row.T.Denot). x.chunks.items) c.deref.ensures in
    let least = c.in-len1.len_at_least in
    let most = c.in-len1.len_below in
    let items : of.group.value.chunks.items ≡ only ∷ [] = sym raw ∙ one_item c.as_slice.result.now only (omega (arith, least)) (omega (arith, most)) c.only-item.is in
    let here = lone_chunk rules start of.grown of.group.value only items c.requires.group in
    subst (λ (rs : List (Ranged g.row.T.Denot)). IfOk c.map_each.result (λ _. (later : List (Ranged g.row.T.Denot)) → Ascend c.args.walk.now.walker.reached (rs ++ later) → Ascend c.map_each.new.walk.walker.reached later)) (sym here.ranges) c.map_each.ensures.walk

pub returns-clause-cost : goal.returns-clause-cost
returns-clause-cost g c =
    let rules = g.T.RangeValue.rules in
    let start = c.args.start in
    let of = c.args.placed.now in
    let only = c.only-item.result in
    let raw = c.as_slice.ensures.value ∙ ap (λ (x : Group g.row.T.Denot). x.chunks.items) c.deref.ensures in
    let least = c.in-len1.len_at_least in
    let most = c.in-len1.len_below in
    let items : of.group.value.chunks.items ≡ only ∷ [] = sym raw ∙ one_item c.as_slice.result.now only (omega (arith, least)) (omega (arith, most)) c.only-item.is in
    let here = lone_chunk rules start of.grown of.group.value only items c.requires.group in
    let few = here.chunk.few in
    let each = c.map_each.ensures.cost in
    omega (arith, few, each)
