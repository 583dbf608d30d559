use Rattle.std.proofs.Common.{◌+◌, ◌-◌, ◌∷◌, refl, ap, ◌∙◌, arith}
use Rattle.change_desc.specs.declared.section.Section.TheVariants.{Replace}
use Rattle.change_desc.specs.Sections.{spelled}
use Rattle.change_desc.specs.Columns.{follows, times, along_old}
use Rattle.change_set.specs.Protection.{takes, pieced, half_within, half_from, run_section, taking}
use Rattle.change_set.proofs.Filtering.{Fits, filter-push, filter-fits}
use Rattle.change_set.proofs.FilterWalk.{run_begin, filtered-normal, room_at}
use Rattle.change_set.proofs.filter.push_deletion.Goals as goal

pub push_run-requires : goal.push_run-requires
push_run-requires c =
    let half = c.args.by.half in
    let rs = c.args.by.ranges.now in
    let len = c.args.by.len in
    let at = c.args.at in
    let to = c.run_from-run.result.to in
    let s = c.requires.room.0 in
    let b = c.takes-is_taken.result in
    let t = c.args.text.now in
    let all = half_from (taking half rs len) c.args.done.now.items at (Replace c.args.count t ∷ s) in
    let f : Fits c.args.done.now.items (run_section b (to - at) c.in_ok-copy.copy) all =
    filter-fits c.args.done.now.items (pieced (taking half rs len) at (along_old spelled (Replace c.args.count t ∷ s))) (pieced (taking half rs len) to (times spelled (at + c.args.count - to) follows (along_old spelled s)))
    all (run_section b (to - at) c.in_ok-copy.copy)
    (run_begin half rs len at to c.args.count t s b c.in_ok-copy.copy c.run_from-run.ensures.run c.requires.some (c.takes-is_taken.ensures ∙ ap (takes half) c.run_from-run.ensures.is_protected) c.in_ok-copy.ensures) refl in
    record {
      is_normal = c.requires.is_normal;
      old_fits = omega (arith, f.old_fits, c.requires.room.1.old_fits);
      new_fits = omega (arith, f.new_fits, c.requires.room.1.new_fits);
    }

pub push_runs-requires-clause-is_normal : goal.push_runs-requires-clause-is_normal
push_runs-requires-clause-is_normal c =
    filtered-normal c.args.done.now.items c.push_run.new.done.items (run_section c.takes-is_taken.result (c.run_from-run.result.to - c.args.at) c.in_ok-copy.copy) c.in_ok-push_run.ensures

pub push_runs-requires-clause-room : goal.push_runs-requires-clause-room
push_runs-requires-clause-room c =
    let half = c.args.by.half in
    let rs = c.args.by.ranges.now in
    let len = c.args.by.len in
    let at = c.args.at in
    let to = c.run_from-run.result.to in
    let s = c.requires.room.0 in
    let b = c.takes-is_taken.result in
    let t = c.args.text.now in
    let all = half_from (taking half rs len) c.args.done.now.items at (Replace c.args.count t ∷ s) in (
      s,
      room_at (half_within (taking half rs len) c.push_run.new.done.items to (at + c.args.count - to) s) all
          (filter-push c.args.done.now.items c.push_run.new.done.items (pieced (taking half rs len) at (along_old spelled (Replace c.args.count t ∷ s)))
          (pieced (taking half rs len) to (times spelled (at + c.args.count - to) follows (along_old spelled s))) all (run_section b (to - at) c.in_ok-copy.copy) c.in_ok-push_run.ensures
          (run_begin half rs len at to c.args.count t s b c.in_ok-copy.copy c.run_from-run.ensures.run c.requires.some (c.takes-is_taken.ensures ∙ ap (takes half) c.run_from-run.ensures.is_protected) c.in_ok-copy.ensures) refl)
          c.requires.room.1,
    )

pub returns-clause-rest : goal.returns-clause-rest
returns-clause-rest c =
    let half = c.args.by.half in
    let rs = c.args.by.ranges.now in
    let len = c.args.by.len in
    let at = c.args.at in
    let to = c.run_from-run.result.to in
    let b = c.takes-is_taken.result in
    let t = c.args.text.now in
    λ s. c.in_ok-reached.ensures.rest s ∙
    filter-push c.args.done.now.items c.push_run.new.done.items (pieced (taking half rs len) at (along_old spelled (Replace c.args.count t ∷ s)))
    (pieced (taking half rs len) to (times spelled (at + c.args.count - to) follows (along_old spelled s))) (half_from (taking half rs len) c.args.done.now.items at (Replace c.args.count t ∷ s))
    (run_section b (to - at) c.in_ok-copy.copy) c.in_ok-push_run.ensures
    (run_begin half rs len at to c.args.count t s b c.in_ok-copy.copy c.run_from-run.ensures.run c.requires.some (c.takes-is_taken.ensures ∙ ap (takes half) c.run_from-run.ensures.is_protected) c.in_ok-copy.ensures) refl
