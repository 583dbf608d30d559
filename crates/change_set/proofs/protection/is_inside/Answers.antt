use Rattle.std.proofs.Common.{◌<◌, length, get_or}
use Rattle.std.proofs.lemmas.List.{drop_all, drop_more}
use Rattle.change_set.proofs.Runs.{inside_past, inside_none, inside_first}
use Rattle.change_set.proofs.protection.is_inside.Goals as goal

pub returns-then-pos-len : goal.returns-then-pos-len
returns-then-pos-len c = inside_past c.args.ranges.now c.args.len c.args.pos c.requires.apart c.if-pos-len.true

pub returns-then-ended-ranges : goal.returns-then-ended-ranges
returns-then-ended-ranges c =
    inside_none c.args.ranges.now c.args.ended c.args.len c.args.pos c.requires.apart c.requires.ended c.if-pos-len.false (drop_all c.args.ended c.args.ranges.now c.if-ended-ranges.true)

pub returns : goal.returns
returns c =
    let l : c.args.ended < length c.args.ranges.now = c.if-ended-ranges.false in
    inside_first c.args.ranges.now c.args.ended c.args.len c.args.pos (get_or c.args.ranges.now c.args.ended (0, 0)) c.requires.apart c.requires.ended c.if-pos-len.false
    (drop_more c.args.ranges.now c.args.ended (0, 0) l) (c.requires.next l)
