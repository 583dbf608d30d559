use Rattle.std.proofs.Common.{◌≡◌, ◌-◌, List, Some, length, get_or, map, ap, subst, sym, ◌∙◌, arith}
use Rattle.std.specs.Prelude.{slice_get}
use Rattle.std.proofs.lemmas.Bool.{not-true}
use Rattle.std.proofs.lemmas.List.{length-map}
use Rattle.range_set.specs.declared.chunk.Chunk.{Chunk}
use Rattle.range_set.specs.PrivateChunks.{content, grow}
use Rattle.range_set.specs.declared.ranged.Ranged.{Ranged}
use Rattle.range_set.proofs.Each.{grown_at, item_fits}
use Rattle.range_set.proofs.UpdateLoops.{beyond_next, last_at}
use Rattle.range_set.proofs.updating.is_beyond.Goals as goal

pub is_before-requires : goal.is_before-requires
is_before-requires g c =
    let last = c.in-Some-Some.last.now in
    let by = c.args.placed.now.grown in
    let raw = c.args.placed.now.chunk.value.ranges.items in
    let same = c.deref-2.ensures.value ∙ ap (λ (ch : Chunk g.row.T.Denot). ch.ranges.items) c.deref.ensures in
    let at = last_at raw last (subst (λ (xs : List (Ranged g.row.T.Denot)). slice_get xs (length xs - 1) ≡ Some last) same (sym c.in-Some-Some.ensures'.value)) in
    let grown = grown_at by raw (length raw - 1) last at.0 at.1 in
    let fits = item_fits g.T.RangeValue.rules c.args.placed.now.start (content c.args.placed.now) (length raw - 1) (grow by last) c.requires grown.0 grown.1 in
    omega (arith, fits.0)

pub returns-in-Some-Some : goal.returns-in-Some-Some
returns-in-Some-Some g c = λ t.
    let last = c.in-Some-Some.last.now in
    let by = c.args.placed.now.grown in
    let raw = c.args.placed.now.chunk.value.ranges.items in
    let same = c.deref-2.ensures.value ∙ ap (λ (ch : Chunk g.row.T.Denot). ch.ranges.items) c.deref.ensures in
    let at = last_at raw last (subst (λ (xs : List (Ranged g.row.T.Denot)). slice_get xs (length xs - 1) ≡ Some last) same (sym c.in-Some-Some.ensures'.value)) in
    let grown = grown_at by raw (length raw - 1) last at.0 at.1 in
    let count = length-map raw (grow by) in
    beyond_next g.T.RangeValue.rules c.args.placed.now.start (map (grow by) raw) (grow by last) c.in-Some-Some.next.now c.args.added.now.items (subst (λ n. grow by last ≡ get_or (map (grow by) raw) (n - 1) (grow by last)) (sym count) grown.1) c.in-Some-Some.ensures.lookup
    (sym c.is_before.ensures ∙ not-true c.is_before.result t)
