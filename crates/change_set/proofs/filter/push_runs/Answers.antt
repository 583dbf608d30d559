use Rattle.std.proofs.Common.{◌-◌, ap, ◌∙◌, arith}
use Rattle.change_desc.specs.Sections.{spelled}
use Rattle.change_desc.specs.Columns.{follows, times, along_old}
use Rattle.change_set.specs.Protection.{takes, pieced, half_within, run_section, taking}
use Rattle.change_set.proofs.Filtering.{Fits, filter-push, filter-fits}
use Rattle.change_set.proofs.Runs.{ended-later}
use Rattle.change_set.proofs.FilterWalk.{run_on, filtered-normal}
use Rattle.change_set.proofs.filter.push_runs.Goals as goal

pub push_run-requires : goal.push_run-requires
push_run-requires c =
    let half = c.args.by.half in
    let rs = c.args.by.ranges.now in
    let len = c.args.by.len in
    let pos = c.runs.pos in
    let to = c.run_from-run.result.to in
    let end = c.args.end in
    let s = c.requires.room.0 in
    let b = c.takes-is_taken.result in
    let f : Fits c.runs.done.items (run_section b (to - pos) c.of-none.result) (half_within (taking half rs len) c.args.done.now.items c.args.from (end - c.args.from) s) =
    filter-fits c.runs.done.items (pieced (taking half rs len) pos (times spelled (end - pos) follows (along_old spelled s))) (pieced (taking half rs len) to (times spelled (end - to) follows (along_old spelled s)))
    (half_within (taking half rs len) c.args.done.now.items c.args.from (end - c.args.from) s) (run_section b (to - pos) c.of-none.result)
    (run_on half rs len pos to end s b c.of-none.result c.run_from-run.ensures.run (c.takes-is_taken.ensures ∙ ap (takes half) c.run_from-run.ensures.is_protected) (c.of-none.ensures ∙ c.in_ok-empty.ensures))
    (c.runs.invariant.rest s) in
    record {
      is_normal = c.runs.invariant.is_normal;
      old_fits = omega (arith, f.old_fits, c.requires.room.1.old_fits);
      new_fits = omega (arith, f.new_fits, c.requires.room.1.new_fits);
    }

pub runs-preserved : goal.runs-preserved
runs-preserved c =
    let half = c.args.by.half in
    let rs = c.args.by.ranges.now in
    let len = c.args.by.len in
    let pos = c.runs.pos in
    let to = c.run_from-run.result.to in
    let end = c.args.end in
    let b = c.takes-is_taken.result in
    record {
      from = omega (arith, c.runs.invariant.from, c.run_from-run.ensures.run.some);
      order = c.run_from-run.ensures.run.within;
      ended = ended-later c.args.by.ranges.now c.ended-count.result pos to (omega (arith, c.run_from-run.ensures.run.some)) c.ended-count.ensures.ended;
      is_normal = filtered-normal c.runs.done.items c.push_run.new.done.items (run_section b (to - pos) c.of-none.result) c.in_ok-push_run.ensures;
      rest = λ s.
          filter-push c.runs.done.items c.push_run.new.done.items (pieced (taking half rs len) pos (times spelled (end - pos) follows (along_old spelled s)))
          (pieced (taking half rs len) to (times spelled (end - to) follows (along_old spelled s))) (half_within (taking half rs len) c.args.done.now.items c.args.from (end - c.args.from) s)
          (run_section b (to - pos) c.of-none.result) c.in_ok-push_run.ensures
          (run_on half rs len pos to end s b c.of-none.result c.run_from-run.ensures.run (c.takes-is_taken.ensures ∙ ap (takes half) c.run_from-run.ensures.is_protected) (c.of-none.ensures ∙ c.in_ok-empty.ensures))
          (c.runs.invariant.rest s);
    }
