use Rattle.std.proofs.Common.{arith}
use Rattle.line_rows.specs.Run.{is_bare}
use Rattle.line_rows.proofs.RunSteps.{trim_begin, trim_bound, trim_step}
use Rattle.line_rows.proofs.runs.trimmed_len.Goals as goal

pub loop-i-init : goal.loop-i-init
loop-i-init c = record { within = omega arith; value = trim_begin c.args.cells.now }

pub loop-i-preserved : goal.loop-i-preserved
loop-i-preserved c = record {
  within = trim_bound (is_bare c.index-cells-i.result) c.loop-i.len c.len_with-len.result c.loop-i.i c.loop-i.invariant.within c.len_with-len.ensures;
  value = trim_step c.args.cells.now c.loop-i.i c.loop-i.len c.len_with-len.result c.index-cells-i.result (omega arith) c.index-cells-i.is c.len_with-len.ensures c.loop-i.invariant.value;
}
