use Rattle.std.proofs.Common.{◌≡◌, ◌<◌, ◌++◌, ◌∷◌, [], List, length, get_or, take, map, filter, ap, subst, sym, refl, ◌∙◌, arith}
use Rattle.range_set.specs.PrivateChunks.{content, grow, shift}
use Rattle.range_set.specs.declared.chunk.Chunk.{Chunk}
use Rattle.range_set.specs.declared.ranged.Ranged.{Ranged}
use Rattle.range_set.specs.PrivateUpdates.{KeepsPart}
use Rattle.range_set.proofs.Each.{grown_at, item_fits}
use Rattle.range_set.proofs.UpdateLoops.{filter_kept, filter_left_out, more_shifted, part_kept, part_left_out}
use Rattle.range_set.proofs.updating.keep_each.Goals as goal
use Rattle.range_set.proofs.updating.keep_each.Goals.{then-keep+in_ok-try_copy+in_ok-push, else-keep}

pub overflow_add-range : goal.overflow_add-range
overflow_add-range g c =
    let r = c.range-item.result in
    let i = c.loop-range.range-index in
    let by = c.args.placed.now.grown in
    let raw = c.args.placed.now.chunk.value.ranges.items in
    let same = c.deref-range-items.ensures.value ∙ ap (λ (ch : Chunk g.row.T.Denot). ch.ranges.items) c.deref-2.ensures in
    let l : i < length raw = subst (λ (xs : List (Ranged g.row.T.Denot)). i < length xs) same c.loop-range-test.true in
    let is : r ≡ get_or raw i r = subst (λ (xs : List (Ranged g.row.T.Denot)). r ≡ get_or xs i r) same c.range-item.is in
    let at = grown_at by raw i r l is in
    let fits = item_fits g.T.RangeValue.rules c.args.placed.now.start (content c.args.placed.now) i (grow by r) c.requires.chunk at.0 at.1 in
    omega (arith, fits.0)

pub overflow_add-range-in-loop-range : goal.overflow_add-range-in-loop-range
overflow_add-range-in-loop-range g c =
    let r = c.range-item.result in
    let i = c.loop-range.range-index in
    let by = c.args.placed.now.grown in
    let raw = c.args.placed.now.chunk.value.ranges.items in
    let same = c.deref-range-items.ensures.value ∙ ap (λ (ch : Chunk g.row.T.Denot). ch.ranges.items) c.deref-2.ensures in
    let l : i < length raw = subst (λ (xs : List (Ranged g.row.T.Denot)). i < length xs) same c.loop-range-test.true in
    let is : r ≡ get_or raw i r = subst (λ (xs : List (Ranged g.row.T.Denot)). r ≡ get_or xs i r) same c.range-item.is in
    let at = grown_at by raw i r l is in
    let fits = item_fits g.T.RangeValue.rules c.args.placed.now.start (content c.args.placed.now) i (grow by r) c.requires.chunk at.0 at.1 in
    omega (arith, fits.1)

pub overflow_add-range-in-loop-range-2 : goal.overflow_add-range-in-loop-range-2
overflow_add-range-in-loop-range-2 g c =
    let r = c.range-item.result in
    let i = c.loop-range.range-index in
    let by = c.args.placed.now.grown in
    let raw = c.args.placed.now.chunk.value.ranges.items in
    let same = c.deref-range-items.ensures.value ∙ ap (λ (ch : Chunk g.row.T.Denot). ch.ranges.items) c.deref-2.ensures in
    let l : i < length raw = subst (λ (xs : List (Ranged g.row.T.Denot)). i < length xs) same c.loop-range-test.true in
    let is : r ≡ get_or raw i r = subst (λ (xs : List (Ranged g.row.T.Denot)). r ≡ get_or xs i r) same c.range-item.is in
    let at = grown_at by raw i r l is in
    let fits = item_fits g.T.RangeValue.rules c.args.placed.now.start (content c.args.placed.now) i (grow by r) c.requires.chunk at.0 at.1 in
    omega (arith, fits.1)

pub loop-range-preserved : goal.loop-range-preserved
loop-range-preserved g c =
    let r = c.range-item.result in
    let i = c.loop-range.range-index in
    let start = c.args.placed.now.start in
    let by = c.args.placed.now.grown in
    let raw = c.args.placed.now.chunk.value.ranges.items in
    let old = c.args.run.now.items in
    let run = c.loop-range.run.items in
    let same = c.deref-range-items.ensures.value ∙ ap (λ (ch : Chunk g.row.T.Denot). ch.ranges.items) c.deref-2.ensures in
    let l : i < length raw = subst (λ (xs : List (Ranged g.row.T.Denot)). i < length xs) same c.loop-range-test.true in
    let is : r ≡ get_or raw i r = subst (λ (xs : List (Ranged g.row.T.Denot)). r ≡ get_or xs i r) same c.range-item.is in
    let at = grown_at by raw i r l is in
    let seen = map (shift start) (take i (map (grow by) raw)) in
    let more = sym (more_shifted start (map (grow by) raw) i (grow by r) at.0 at.1) in
    let kept = c.loop-range.invariant in
    elim c.if-keep.branch [
      | then-keep+in_ok-try_copy+in_ok-push w ↦
          let after = ap (λ v. v.items) w.run-is ∙ (w.in_ok-push.ensures.items ∙ ap (λ x. run ++ x ∷ []) w.in_ok-try_copy.ensures) in
          record {
            kept = λ p a.
                let k = a _ c.keep.result (record { shown = _; shows = refl; says = record { met = c.keep.ensures } }) in
                subst (λ xs. c.if-keep.run.items ≡ old ++ filter p xs) more (filter_kept p old run c.if-keep.run.items seen (shift start (grow by r)) (kept.kept p a) after (sym k ∙ w.if-keep.true));
            part = subst (λ xs. KeepsPart xs old c.if-keep.run.items) more (part_kept seen old run c.if-keep.run.items (shift start (grow by r)) kept.part after);
          }
      | else-keep w ↦
          let after = sym (ap (λ v. v.items) w.run-is) in
          record {
            kept = λ p a.
                let k = a _ c.keep.result (record { shown = _; shows = refl; says = record { met = c.keep.ensures } }) in
                subst (λ xs. c.if-keep.run.items ≡ old ++ filter p xs) more (subst (λ ys. ys ≡ old ++ filter p (seen ++ shift start (grow by r) ∷ [])) after (filter_left_out p old run seen (shift start (grow by r)) (kept.kept p a) (sym k ∙ w.if-keep.false)));
            part = subst (λ xs. KeepsPart xs old c.if-keep.run.items) more (subst (λ ys. KeepsPart (seen ++ shift start (grow by r) ∷ []) old ys) after (part_left_out seen old run (shift start (grow by r)) kept.part));
          }
    ]
