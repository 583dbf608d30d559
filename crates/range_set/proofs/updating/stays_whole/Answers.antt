use Rattle.std.proofs.Common.{◌≡◌, ◌<◌, List, length, get_or, take, map, filter, ap, subst, sym, refl, ◌∙◌, arith}
use Rattle.range_set.specs.PrivateChunks.{content, grow, shift}
use Rattle.range_set.specs.declared.chunk.Chunk.{Chunk}
use Rattle.range_set.specs.declared.ranged.Ranged.{Ranged}
use Rattle.std.proofs.lemmas.List.{length-map, take_all}
use Rattle.range_set.proofs.Each.{grown_at, item_fits}
use Rattle.range_set.proofs.UpdateLoops.{all_kept, more_shifted}
use Rattle.range_set.proofs.updating.stays_whole.Goals as goal

pub overflow_add-range : goal.overflow_add-range
overflow_add-range g c =
    let r = c.range-item.result in
    let i = c.loop-range.range-index in
    let by = c.args.placed.now.grown in
    let raw = c.args.placed.now.chunk.value.ranges.items in
    let same = c.deref-range-items.ensures.value ∙ ap (λ (ch : Chunk g.row.T.Denot). ch.ranges.items) c.deref.ensures in
    let l : i < length raw = subst (λ (xs : List (Ranged g.row.T.Denot)). i < length xs) same c.loop-range-test.true in
    let is : r ≡ get_or raw i r = subst (λ (xs : List (Ranged g.row.T.Denot)). r ≡ get_or xs i r) same c.range-item.is in
    let at = grown_at by raw i r l is in
    let fits = item_fits g.T.RangeValue.rules c.args.placed.now.start (content c.args.placed.now) i (grow by r) c.requires.chunk at.0 at.1 in
    omega (arith, fits.0)

pub overflow_add-range-in-loop-range : goal.overflow_add-range-in-loop-range
overflow_add-range-in-loop-range g c =
    let r = c.range-item.result in
    let i = c.loop-range.range-index in
    let by = c.args.placed.now.grown in
    let raw = c.args.placed.now.chunk.value.ranges.items in
    let same = c.deref-range-items.ensures.value ∙ ap (λ (ch : Chunk g.row.T.Denot). ch.ranges.items) c.deref.ensures in
    let l : i < length raw = subst (λ (xs : List (Ranged g.row.T.Denot)). i < length xs) same c.loop-range-test.true in
    let is : r ≡ get_or raw i r = subst (λ (xs : List (Ranged g.row.T.Denot)). r ≡ get_or xs i r) same c.range-item.is in
    let at = grown_at by raw i r l is in
    let fits = item_fits g.T.RangeValue.rules c.args.placed.now.start (content c.args.placed.now) i (grow by r) c.requires.chunk at.0 at.1 in
    omega (arith, fits.1)

pub overflow_add-range-in-loop-range-2 : goal.overflow_add-range-in-loop-range-2
overflow_add-range-in-loop-range-2 g c =
    let r = c.range-item.result in
    let i = c.loop-range.range-index in
    let by = c.args.placed.now.grown in
    let raw = c.args.placed.now.chunk.value.ranges.items in
    let same = c.deref-range-items.ensures.value ∙ ap (λ (ch : Chunk g.row.T.Denot). ch.ranges.items) c.deref.ensures in
    let l : i < length raw = subst (λ (xs : List (Ranged g.row.T.Denot)). i < length xs) same c.loop-range-test.true in
    let is : r ≡ get_or raw i r = subst (λ (xs : List (Ranged g.row.T.Denot)). r ≡ get_or xs i r) same c.range-item.is in
    let at = grown_at by raw i r l is in
    let fits = item_fits g.T.RangeValue.rules c.args.placed.now.start (content c.args.placed.now) i (grow by r) c.requires.chunk at.0 at.1 in
    omega (arith, fits.1)

pub loop-range-preserved : goal.loop-range-preserved
loop-range-preserved g c = λ p a.
    let r = c.range-item.result in
    let i = c.loop-range.range-index in
    let start = c.args.placed.now.start in
    let by = c.args.placed.now.grown in
    let raw = c.args.placed.now.chunk.value.ranges.items in
    let same = c.deref-range-items.ensures.value ∙ ap (λ (ch : Chunk g.row.T.Denot). ch.ranges.items) c.deref.ensures in
    let l : i < length raw = subst (λ (xs : List (Ranged g.row.T.Denot)). i < length xs) same c.loop-range-test.true in
    let is : r ≡ get_or raw i r = subst (λ (xs : List (Ranged g.row.T.Denot)). r ≡ get_or xs i r) same c.range-item.is in
    let at = grown_at by raw i r l is in
    let k = a _ c.keep.result (record { shown = _; shows = refl; says = record { met = c.keep.ensures } }) in
    subst (λ xs. filter p xs ≡ xs) (sym (more_shifted start (map (grow by) raw) i (grow by r) at.0 at.1))
    (all_kept p (map (shift start) (take i (map (grow by) raw))) (shift start (grow by r)) (c.loop-range.invariant p a) (sym k ∙ c.if-not-keep.false))

pub returns : goal.returns
returns g c = λ p a t.
    let i = c.loop-range.range-index in
    let start = c.args.placed.now.start in
    let items = (content c.args.placed.now).ranges in
    let same = c.deref-range-items.ensures.value ∙ ap (λ (ch : Chunk g.row.T.Denot). ch.ranges.items) c.deref.ensures in
    let n = ap length same in
    let m = length-map c.args.placed.now.chunk.value.ranges.items (grow c.args.placed.now.grown) in
    let h = c.loop-range-test.false in
    subst (λ xs. filter p (map (shift start) xs) ≡ map (shift start) xs) (take_all i items (omega (arith, n, m, h))) (c.loop-range.invariant p a)
