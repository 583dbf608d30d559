use Rattle.std.proofs.Common.{◌+◌, ◌<◌, ◌^◌, arith, length}
use Rattle.std.proofs.lemmas.Result.{IfOk-weaker}
use Rattle.term_bytes.proofs.Laid.{laid_none}
use Rattle.term_bytes.proofs.ReadBack.{reads_back}
use Rattle.term_bytes.proofs.frame_bytes.frame.Goals as goal

pub returns-clause-read_back : goal.returns-clause-read_back
returns-clause-read_back c =
    let few : length c.args.rows.now + 1 < 10 ^ 64 = omega arith in
    let row : c.args.cursor.row + 1 < 10 ^ 64 = omega arith in
    let column : c.args.cursor.column + 1 < 10 ^ 64 = omega arith in
    IfOk-weaker c.rows_and_cursor.result _ _ (λ text is. reads_back text c.args.rows.now c.args.cursor.row c.args.cursor.column is few row column) c.rows_and_cursor.ensures

pub returns-clause-laid : goal.returns-clause-laid
returns-clause-laid c = λ laid. laid_none c.args.rows.now laid
