use Rattle.std.proofs.Common.{◌+◌, ◌-◌, List, Some, map, ap, subst, sym, ◌∙◌, arith}
use Rattle.change_desc.specs.Sections.{old_size}
use Rattle.range_set.specs.PrivateMoving.{AreMoved, AreWithin}
use Rattle.range_set.specs.declared.ranged.Ranged.{Ranged}
use Rattle.range_set.specs.PrivateChunks.{grow}
use Rattle.range_set.proofs.Chunks.{turned-shifted}
use Rattle.range_set.proofs.Clear.{carried_parts}
use Rattle.range_set.proofs.MovedRuns.{goes_along, moved_more}
use Rattle.range_set.proofs.moving.move_clear.Goals as goal

pub carries-requires-clause-first : goal.carries-requires-clause-first
carries-requires-clause-first g c = (c.requires.walk c.in-Some.last c.in-Some.is).first

pub carry-requires-clause-fits : goal.carry-requires-clause-fits
carry-requires-clause-fits g c =
    let rules = g.T.RangeValue.rules in
    let d = c.args.walk.now.walker.desc in
    let start = c.args.start in
    let p = c.in-Some.last in
    let by = c.args.grown in
    let r = grow by c.in-Some-split_first.range.now in
    let within = subst (AreWithin (old_size d) start) (ap (map (grow by)) c.in-Some-split_first.ensures.cases.0) c.loop-range.invariant.within in
    let carried = carried_parts _ _ _ (sym c.carries.ensures ∙ c.if-not-carries.false) in
    let along = goes_along rules d start p r (c.requires.walk p c.in-Some.is) within.0.0 within.0.1 (sym (turned-shifted rules start r) ∙ (sym c.is_turned.ensures ∙ c.if-is_turned.false)) carried.0 carried.1 in
    let fits = along.fits in
    let room = c.requires.room in
    let forward = within.0.0 in
    let from = carried.0 in
    omega (arith, fits, room, forward, from)

pub carry-requires-in-Some-split_first-clause-fits : goal.carry-requires-in-Some-split_first-clause-fits
carry-requires-in-Some-split_first-clause-fits g c =
    let rules = g.T.RangeValue.rules in
    let d = c.args.walk.now.walker.desc in
    let start = c.args.start in
    let p = c.in-Some.last in
    let by = c.args.grown in
    let r = grow by c.in-Some-split_first.range.now in
    let within = subst (AreWithin (old_size d) start) (ap (map (grow by)) c.in-Some-split_first.ensures.cases.0) c.loop-range.invariant.within in
    let carried = carried_parts _ _ _ (sym c.carries.ensures ∙ c.if-not-carries.false) in
    let along = goes_along rules d start p r (c.requires.walk p c.in-Some.is) within.0.0 within.0.1 (sym (turned-shifted rules start r) ∙ (sym c.is_turned.ensures ∙ c.if-is_turned.false)) carried.0 carried.1 in
    let fits = along.fits in
    let room = c.requires.room in
    omega (arith, fits, room)

pub loop-range-preserved : goal.loop-range-preserved
loop-range-preserved g c =
    let rules = g.T.RangeValue.rules in
    let d = c.args.walk.now.walker.desc in
    let start = c.args.start in
    let p = c.in-Some.last in
    let by = c.args.grown in
    let r = grow by c.in-Some-split_first.range.now in
    let others = map (grow by) c.in-Some-split_first.others.now in
    let is = ap (map (grow by)) c.in-Some-split_first.ensures.cases.0 in
    let within = subst (AreWithin (old_size d) start) is c.loop-range.invariant.within in
    let carried = carried_parts _ _ _ (sym c.carries.ensures ∙ c.if-not-carries.false) in
    let along = goes_along rules d start p r (c.requires.walk p c.in-Some.is) within.0.0 within.0.1 (sym (turned-shifted rules start r) ∙ (sym c.is_turned.ensures ∙ c.if-is_turned.false)) carried.0 carried.1 in
    let at = ap (λ n. let q : Ranged g.row.T.Denot = record { from = n; to = c.carry-in-Some-split_first.result; value = c.in_ok-value.value } in Some q) c.carry.ensures in
    let to = ap (λ n. let q : Ranged g.row.T.Denot = record { from = p.to + (r.from + start - p.from); to = n; value = c.in_ok-value.value } in Some q) c.carry-in-Some-split_first.ensures in
    let value = ap (λ v. let q : Ranged g.row.T.Denot = record { from = p.to + (r.from + start - p.from); to = p.to + (r.to + start - p.from); value = v } in Some q) c.in_ok-value.ensures in
    let counted = c.tick.ensures in
    let moved = subst (λ (rs : List (Ranged g.row.T.Denot)). AreMoved rules d start (map (grow by) c.args.ranges.now) rs c.args.run.now.items c.loop-range.run.items c.args.mapped.now c.loop-range.mapped) is c.loop-range.invariant.moved in
    record {
      within = within.1;
      moved = moved_more rules d start (map (grow by) c.args.ranges.now) others c.args.run.now.items c.loop-range.run.items c.push.new.self.items r _ c.args.mapped.now c.loop-range.mapped c.tick.new.self
          moved (at ∙ (to ∙ (value ∙ along.moves))) c.in_ok-push.ensures.items (omega (arith, counted));
    }
