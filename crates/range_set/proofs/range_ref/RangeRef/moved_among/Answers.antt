use Rattle.std.proofs.Common.{◌≡◌, ◌+◌, ◌-◌, true, Some, ap, subst, sym, ◌∙◌, arith}
use Rattle.std.specs.Prelude.{unwrap_or}
use Rattle.change_desc.specs.declared.map_mode.MapMode.TheVariants.{Simple}
use Rattle.change_desc.specs.Ranges.{replaced}
use Rattle.change_desc.specs.Walker.{Walk}
use Rattle.range_set.specs.Seen.{seen}
use Rattle.range_set.specs.declared.ranged.Ranged.{Ranged}
use Rattle.range_set.specs.PrivateMoving.{IsClearPlace}
use Rattle.range_set.proofs.Clear.{Sections, clear_place, map_pos-clear, none-narrow}
use Rattle.range_set.proofs.Walked.{clear_range}
use Rattle.range_set.proofs.range_ref.RangeRef.moved_among.Goals as goal

pub overflow_add-to : goal.overflow_add-to
overflow_add-to g c =
    let d = c.args.walk.now.walker.desc in
    let r = seen c.args.self.now in
    let clear = clear_range g.T.RangeValue.rules d r c.requires.forward c.requires.end (sym c.is_turned.ensures ∙ c.if-is_turned.false) (sym (c.requires.same r.from r.to (omega arith)) ∙ (sym c.first_meets.ensures ∙ c.if-first_meets.false)) in
    let start : c.place_after-from.result ≡ clear_place d r.from = c.place_after-from.ensures.value ∙ ap (λ o. unwrap_or o 0) (map_pos-clear d r.from true Simple c.requires.start clear.clear) in
    let fits = clear.fits in
    let room = c.requires.room in
    omega (arith, start, fits, room)

pub returns-clause-value : goal.returns-clause-value
returns-clause-value g c =
    let d = c.args.walk.now.walker.desc in
    let r = seen c.args.self.now in
    let clear = clear_range g.T.RangeValue.rules d r c.requires.forward c.requires.end (sym c.is_turned.ensures ∙ c.if-is_turned.false) (sym (c.requires.same r.from r.to (omega arith)) ∙ (sym c.first_meets.ensures ∙ c.if-first_meets.false)) in
    let start : c.place_after-from.result ≡ clear_place d r.from = c.place_after-from.ensures.value ∙ ap (λ o. unwrap_or o 0) (map_pos-clear d r.from true Simple c.requires.start clear.clear) in
    ap (λ n. let q : Ranged g.row.T.Denot = record { from = n; to = n + (r.to - r.from); value = c.in_ok-value.value } in Some q) start
    ∙ (ap (λ v. let q : Ranged g.row.T.Denot = record { from = clear_place d r.from; to = clear_place d r.from + (r.to - r.from); value = v } in Some q) c.in_ok-value.ensures
    ∙ sym clear.moves)

pub returns-then-is_turned-clause-walk : goal.returns-then-is_turned-clause-walk
returns-then-is_turned-clause-walk g c = λ p e. subst (λ (d : Sections). IsClearPlace d p) (sym (ap (λ (w : Walk). w.desc) c.moved.ensures.walk)) (c.requires.walk p e)

pub place_after-from-requires-clause-clear : goal.place_after-from-requires-clause-clear
place_after-from-requires-clause-clear g c =
    let d = c.args.walk.now.walker.desc in
    let r = seen c.args.self.now in
    none-narrow r.from r.to r.from r.from (replaced d) (omega arith) c.requires.forward (sym (c.requires.same r.from r.to (omega arith)) ∙ (sym c.first_meets.ensures ∙ c.if-first_meets.false))
