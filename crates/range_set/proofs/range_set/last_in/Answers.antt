use Rattle.std.proofs.Common.{◌≡◌, ◌-◌, ◌+◌, List, None, Some, length, map, ap, subst, sym, ◌∙◌, arith}
use Rattle.std.proofs.lemmas.List.{length-map}
use Rattle.std.specs.Prelude.{slice_get}
use Rattle.range_set.specs.declared.chunk.Chunk.{Chunk}
use Rattle.range_set.specs.PrivateChunks.{content, grow, lengthen}
use Rattle.range_set.specs.declared.ranged.Ranged.{Ranged}
use Rattle.range_set.proofs.Chunks.{chunk-at}
use Rattle.range_set.proofs.Each.{item_fits}
use Rattle.range_set.proofs.Groups.{chunk_placed, hull_at}
use Rattle.range_set.proofs.Sets.{has_last, last_grown, last_lengthened, last_moved, last_place}
use Rattle.range_set.proofs.range_set.last_in.Goals as goal

pub returns-in_err-range : goal.returns-in_err-range
returns-in_err-range g c =
    let ps = map (lengthen c.args.grown) c.args.chunks.now in
    let p = lengthen c.args.grown c.in_ok-placed.placed.now in
    let items = p.chunk.value.ranges.items in
    let place = last_place ps p (last_lengthened c.args.grown c.args.chunks.now c.in_ok-placed.placed.now (sym c.in_ok-placed.ensures.value)) in
    let chunk = chunk-at g.T.RangeValue.rules ps (length ps - 1) p place.0 place.1 c.requires.chunks in
    let same = c.deref-2.ensures.value ∙ ap (λ (ch : Chunk g.row.T.Denot). ch.ranges.items) c.deref.ensures in
    let n = length-map items (grow p.grown) in
    let some = chunk.1 in
    absurd (has_last items (omega (arith, n, some)) (subst (λ (xs : List (Ranged g.row.T.Denot)). slice_get xs (length xs - 1) ≡ None) same (sym c.in_err-range.ensures.value)))

pub overflow_add-result : goal.overflow_add-result
overflow_add-result g c =
    let ps = map (lengthen c.args.grown) c.args.chunks.now in
    let p = lengthen c.args.grown c.in_ok-placed.placed.now in
    let r = grow p.grown c.in_ok-range.range.now in
    let items = (content p).ranges in
    let place = last_place ps p (last_lengthened c.args.grown c.args.chunks.now c.in_ok-placed.placed.now (sym c.in_ok-placed.ensures.value)) in
    let chunk = chunk-at g.T.RangeValue.rules ps (length ps - 1) p place.0 place.1 c.requires.chunks in
    let same = c.deref-2.ensures.value ∙ ap (λ (ch : Chunk g.row.T.Denot). ch.ranges.items) c.deref.ensures in
    let last = subst (λ (xs : List (Ranged g.row.T.Denot)). slice_get xs (length xs - 1) ≡ Some c.in_ok-range.range.now) same (sym c.in_ok-range.ensures.value) in
    let at = last_place items r (last_grown p.grown p.chunk.value.ranges.items c.in_ok-range.range.now last) in
    let hull = hull_at g.T.RangeValue.rules ps (length ps - 1) p place.0 place.1 c.requires.chunks in
    let most = c.requires.fits in
    let start = c.args.base + p.start in
    let fits = item_fits g.T.RangeValue.rules start (content p) (length items - 1) r (chunk_placed g.T.RangeValue.rules p.start start (content p) chunk.0 (omega (arith, hull, most))) at.0 at.1 in
    omega (arith, fits.0)

pub overflow_add-result-2 : goal.overflow_add-result-2
overflow_add-result-2 g c =
    let ps = map (lengthen c.args.grown) c.args.chunks.now in
    let p = lengthen c.args.grown c.in_ok-placed.placed.now in
    let r = grow p.grown c.in_ok-range.range.now in
    let items = (content p).ranges in
    let place = last_place ps p (last_lengthened c.args.grown c.args.chunks.now c.in_ok-placed.placed.now (sym c.in_ok-placed.ensures.value)) in
    let chunk = chunk-at g.T.RangeValue.rules ps (length ps - 1) p place.0 place.1 c.requires.chunks in
    let same = c.deref-2.ensures.value ∙ ap (λ (ch : Chunk g.row.T.Denot). ch.ranges.items) c.deref.ensures in
    let last = subst (λ (xs : List (Ranged g.row.T.Denot)). slice_get xs (length xs - 1) ≡ Some c.in_ok-range.range.now) same (sym c.in_ok-range.ensures.value) in
    let at = last_place items r (last_grown p.grown p.chunk.value.ranges.items c.in_ok-range.range.now last) in
    let hull = hull_at g.T.RangeValue.rules ps (length ps - 1) p place.0 place.1 c.requires.chunks in
    let most = c.requires.fits in
    let start = c.args.base + p.start in
    let fits = item_fits g.T.RangeValue.rules start (content p) (length items - 1) r (chunk_placed g.T.RangeValue.rules p.start start (content p) chunk.0 (omega (arith, hull, most))) at.0 at.1 in
    omega (arith, fits.1)

pub overflow_add-result-3 : goal.overflow_add-result-3
overflow_add-result-3 g c =
    let ps = map (lengthen c.args.grown) c.args.chunks.now in
    let p = lengthen c.args.grown c.in_ok-placed.placed.now in
    let r = grow p.grown c.in_ok-range.range.now in
    let items = (content p).ranges in
    let place = last_place ps p (last_lengthened c.args.grown c.args.chunks.now c.in_ok-placed.placed.now (sym c.in_ok-placed.ensures.value)) in
    let chunk = chunk-at g.T.RangeValue.rules ps (length ps - 1) p place.0 place.1 c.requires.chunks in
    let same = c.deref-2.ensures.value ∙ ap (λ (ch : Chunk g.row.T.Denot). ch.ranges.items) c.deref.ensures in
    let last = subst (λ (xs : List (Ranged g.row.T.Denot)). slice_get xs (length xs - 1) ≡ Some c.in_ok-range.range.now) same (sym c.in_ok-range.ensures.value) in
    let at = last_place items r (last_grown p.grown p.chunk.value.ranges.items c.in_ok-range.range.now last) in
    let hull = hull_at g.T.RangeValue.rules ps (length ps - 1) p place.0 place.1 c.requires.chunks in
    let most = c.requires.fits in
    let start = c.args.base + p.start in
    let fits = item_fits g.T.RangeValue.rules start (content p) (length items - 1) r (chunk_placed g.T.RangeValue.rules p.start start (content p) chunk.0 (omega (arith, hull, most))) at.0 at.1 in
    omega (arith, fits.1)

pub overflow_add-result-4 : goal.overflow_add-result-4
overflow_add-result-4 g c =
    let ps = map (lengthen c.args.grown) c.args.chunks.now in
    let p = lengthen c.args.grown c.in_ok-placed.placed.now in
    let r = grow p.grown c.in_ok-range.range.now in
    let items = (content p).ranges in
    let place = last_place ps p (last_lengthened c.args.grown c.args.chunks.now c.in_ok-placed.placed.now (sym c.in_ok-placed.ensures.value)) in
    let chunk = chunk-at g.T.RangeValue.rules ps (length ps - 1) p place.0 place.1 c.requires.chunks in
    let same = c.deref-2.ensures.value ∙ ap (λ (ch : Chunk g.row.T.Denot). ch.ranges.items) c.deref.ensures in
    let last = subst (λ (xs : List (Ranged g.row.T.Denot)). slice_get xs (length xs - 1) ≡ Some c.in_ok-range.range.now) same (sym c.in_ok-range.ensures.value) in
    let at = last_place items r (last_grown p.grown p.chunk.value.ranges.items c.in_ok-range.range.now last) in
    let hull = hull_at g.T.RangeValue.rules ps (length ps - 1) p place.0 place.1 c.requires.chunks in
    let most = c.requires.fits in
    let start = c.args.base + p.start in
    let fits = item_fits g.T.RangeValue.rules start (content p) (length items - 1) r (chunk_placed g.T.RangeValue.rules p.start start (content p) chunk.0 (omega (arith, hull, most))) at.0 at.1 in
    omega (arith, fits.1)

pub overflow_add-start : goal.overflow_add-start
overflow_add-start g c =
    let ps = map (lengthen c.args.grown) c.args.chunks.now in
    let p = lengthen c.args.grown c.in_ok-placed.placed.now in
    let place = last_place ps p (last_lengthened c.args.grown c.args.chunks.now c.in_ok-placed.placed.now (sym c.in_ok-placed.ensures.value)) in
    let hull = hull_at g.T.RangeValue.rules ps (length ps - 1) p place.0 place.1 c.requires.chunks in
    let most = c.requires.fits in
    omega (arith, hull, most)

pub returns : goal.returns
returns g c =
    let ps = map (lengthen c.args.grown) c.args.chunks.now in
    let p = lengthen c.args.grown c.in_ok-placed.placed.now in
    let r = c.in_ok-range.range.now in
    let same = c.deref-2.ensures.value ∙ ap (λ (ch : Chunk g.row.T.Denot). ch.ranges.items) c.deref.ensures in
    let last = subst (λ (xs : List (Ranged g.row.T.Denot)). slice_get xs (length xs - 1) ≡ Some r) same (sym c.in_ok-range.ensures.value) in
    sym (last_moved g.T.RangeValue.rules c.args.base ps p (grow p.grown r) c.requires.chunks (last_lengthened c.args.grown c.args.chunks.now c.in_ok-placed.placed.now (sym c.in_ok-placed.ensures.value))
    (last_grown p.grown p.chunk.value.ranges.items r last))
