use Rattle.std.proofs.Common.{◌+◌, ◌-◌, true, ap, sym, ◌∙◌, arith}
use Rattle.std.specs.Prelude.{unwrap_or}
use Rattle.std.specs.List.{list_any}
use Rattle.change_desc.specs.Ranges.{meets}
use Rattle.change_desc.specs.declared.map_mode.MapMode.TheVariants.{Simple}
use Rattle.range_set.proofs.Clear.{IsClear, carried_parts, clear_apart, map_pos-clear}
use Rattle.range_set.proofs.Walked.{clear_within}
use Rattle.range_set.proofs.clear_walk.ClearWalk.place_after.Goals as goal

pub carries-requires-clause-first : goal.carries-requires-clause-first
carries-requires-clause-first c = (c.requires.walk c.in-Some.last c.in-Some.is).first

pub carry-requires-clause-fits : goal.carry-requires-clause-fits
carry-requires-clause-fits c =
    let d = c.args.self.now.walker.desc in
    let p = c.in-Some.last in
    let last = c.requires.walk p c.in-Some.is in
    let carried = carried_parts p.from c.args.pos (list_any (meets p.from c.args.pos) p.changed.now) (sym c.carries.ensures ∙ c.if-carries.true) in
    let hull : IsClear p.from c.args.pos d = sym (last.same p.from c.args.pos (omega arith)) ∙ carried.1 in
    let apart = clear_apart d p.from c.args.pos carried.0 hull in
    let value = last.value ∙ ap (λ o. unwrap_or o 0) (map_pos-clear d p.from true Simple last.inside last.clear) in
    let bound = clear_within d c.args.pos c.requires.inside c.requires.clear in
    let room = c.requires.room in
    omega (arith, apart, value, bound, room)

pub returns-then-carries-clause-value : goal.returns-then-carries-clause-value
returns-then-carries-clause-value c =
    let d = c.args.self.now.walker.desc in
    let p = c.in-Some.last in
    let last = c.requires.walk p c.in-Some.is in
    let carried = carried_parts p.from c.args.pos (list_any (meets p.from c.args.pos) p.changed.now) (sym c.carries.ensures ∙ c.if-carries.true) in
    let hull : IsClear p.from c.args.pos d = sym (last.same p.from c.args.pos (omega arith)) ∙ carried.1 in
    let apart = clear_apart d p.from c.args.pos carried.0 hull in
    let value = last.value ∙ ap (λ o. unwrap_or o 0) (map_pos-clear d p.from true Simple last.inside last.clear) in
    let here = ap (λ o. unwrap_or o 0) (map_pos-clear d c.args.pos true Simple c.requires.inside c.requires.clear) in
    c.carry.ensures ∙ (ap (λ n. n + (c.args.pos - p.from)) value ∙ (sym apart ∙ sym here))
