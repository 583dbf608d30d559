use Rattle.std.proofs.Common.{◌≡◌, ◌+◌, take, ap, arith}
use Rattle.std.proofs.lemmas.List.{take_all}
use Rattle.line_tree.proofs.Joins.{lengths, lengths-more, lengths-part, length-joined}
use Rattle.line_tree.proofs.parts.len_of.Goals as goal

pub loop-part-preserved : goal.loop-part-preserved
loop-part-preserved c =
    omega (arith, lengths-more c.args.parts.now c.loop-part.part-index c.part-item.result (omega arith) c.part-item.is)

pub overflow_add-len-in-loop-part : goal.overflow_add-len-in-loop-part
overflow_add-len-in-loop-part c =
    omega (
      arith,
      lengths-more c.args.parts.now c.loop-part.part-index c.part-item.result (omega arith) c.part-item.is,
      lengths-part c.args.parts.now (c.loop-part.part-index + 1),
      length-joined c.args.parts.now c.requires.some,
    )

pub overflow_cast-result : goal.overflow_cast-result
overflow_cast-result c =
    omega (arith, lengths-part c.args.parts.now c.loop-part.part-index, length-joined c.args.parts.now c.requires.some)

pub returns : goal.returns
returns c =
    let parts = c.args.parts.now in
    let all : take c.loop-part.part-index parts ≡ parts = take_all c.loop-part.part-index parts (omega arith) in
    omega (arith, ap lengths all, length-joined parts c.requires.some)
