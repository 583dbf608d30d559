use Rattle.std.proofs.Common.{arith}
use Rattle.cm_outside.proofs.Breaks.{added}
use Rattle.cm_outside.proofs.line_reader.keep.Goals as goal

pub returns : goal.returns
returns c = rw (c.in_ok-extend_from_slice.ensures.items, c.split_at.ensures.front) (added c.args.line.now.items c.args.part.now 1048577 c.min.result (omega arith) (omega arith))
