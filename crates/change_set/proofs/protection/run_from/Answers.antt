use Rattle.std.proofs.Common.{◌<◌, length, get_or}
use Rattle.std.proofs.lemmas.List.{drop_more}
use Rattle.change_set.proofs.Runs.{run_in, run_before}
use Rattle.change_set.proofs.protection.run_from.Goals as goal

pub returns-then-range-pos-clause-run : goal.returns-then-range-pos-clause-run
returns-then-range-pos-clause-run c =
    let l : c.args.ended < length c.args.ranges.now = c.if-ended-ranges.false in
    rw c.min.ensures
    ((run_in c.args.ranges.now c.args.ended c.args.len c.args.pos c.args.end (get_or c.args.ranges.now c.args.ended (0, 0)) c.requires.ended
    (drop_more c.args.ranges.now c.args.ended (0, 0) l) c.if-range-pos.true (c.requires.next l) c.requires.some c.requires.within).0)

pub returns-else-range-pos-clause-run : goal.returns-else-range-pos-clause-run
returns-else-range-pos-clause-run c =
    let l : c.args.ended < length c.args.ranges.now = c.if-ended-ranges.false in
    rw c.min-else-range-pos.ensures
    ((run_before c.args.ranges.now c.args.ended c.args.len c.args.pos c.args.end (get_or c.args.ranges.now c.args.ended (0, 0)) c.requires.ended
    (drop_more c.args.ranges.now c.args.ended (0, 0) l) c.if-range-pos.false c.requires.some c.requires.within).0)

pub returns-else-range-pos-clause-is_protected : goal.returns-else-range-pos-clause-is_protected
returns-else-range-pos-clause-is_protected c =
    let l : c.args.ended < length c.args.ranges.now = c.if-ended-ranges.false in
    (run_before c.args.ranges.now c.args.ended c.args.len c.args.pos c.args.end (get_or c.args.ranges.now c.args.ended (0, 0)) c.requires.ended
    (drop_more c.args.ranges.now c.args.ended (0, 0) l) c.if-range-pos.false c.requires.some c.requires.within).1
