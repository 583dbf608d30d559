use Rattle.range_cases.proofs.grouping.rows_stand.Goals as goal

pub loop-row-preserved : goal.loop-row-preserved
loop-row-preserved c = (tt, tt)
