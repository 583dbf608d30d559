use Rattle.std.proofs.Common.{ℕ, ◌+◌, List, get_or, drop, sym, ap, subst, ◌∙◌}
use Rattle.change_desc.specs.declared.section.Section.{Section}
use Rattle.change_desc.specs.Walker.{Walk}
use Rattle.selection.specs.declared.range.Range.{Range}
use Rattle.selection.specs.Ranges.{moved_range}
use Rattle.selection.proofs.Apart.{Follow, follow_all, follow_at, inside_at, moved_more}
use Rattle.selection.proofs.selection.moved_ranges.Goals as goal

pub loop-range-preserved : goal.loop-range-preserved
loop-range-preserved c =
    let rs = c.args.ranges.now in
    let i = c.loop-range.range-index in
    let first : Range = record { anchor = 0; head = 0 } in
    let before = c.loop-range.invariant in
    let moved = c.map.ensures.value ∙ ap (λ (d : List (Section ℕ)). moved_range d (get_or rs i first)) before.over in
    record {
      moved = moved_more (moved_range c.args.changes.now) rs c.loop-range.moved.items c.push.new.self.items i first c.map.result c.loop-range-test.true before.moved moved c.in_ok-push.ensures.ok;
      inside = inside_at _ i rs c.loop-range-test.true before.inside;
      over = ap (λ (w : Walk). w.desc) c.map.ensures.walk ∙ before.over;
      follow = subst (λ (w : Walk). Follow w.reached (drop (i + 1) rs)) (sym c.map.ensures.walk)
          (follow_at c.loop-range.walker.reached i rs first c.loop-range-test.true before.follow);
    }

pub loop-range-init : goal.loop-range-init
loop-range-init c = record {
  moved = c.in_ok-moved.ensures.items;
  inside = c.requires.inside;
  over = ap (λ (w : Walk). w.desc) c.new-walker.ensures;
  follow = rw c.new-walker.ensures (follow_all c.args.ranges.now c.requires.apart);
}
