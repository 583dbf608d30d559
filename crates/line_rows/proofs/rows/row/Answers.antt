use Rattle.std.proofs.Common.{length, ap, ◌∙◌}
use Rattle.line_rows.proofs.Groups.{row_whole}
use Rattle.line_rows.proofs.Parts.{pieces_once}
use Rattle.line_rows.proofs.Windows.{length-row}
use Rattle.line_rows.proofs.rows.row.Goals as goal

pub returns-clause-length : goal.returns-clause-length
returns-clause-length g c = ap length c.in_ok-row.ensures ∙ length-row c.args.tab c.args.cols c.args.left c.args.pieces.now

pub returns-clause-whole : goal.returns-clause-whole
returns-clause-whole g c = rw c.in_ok-row.ensures (row_whole c.args.tab c.args.cols c.args.left c.args.pieces.now)

pub returns-clause-once : goal.returns-clause-once
returns-clause-once g c = pieces_once c.args.tab c.args.pieces.now.start c.args.pieces.now.pieces c.requires.positive

pub returns-in_err-row-clause-once : goal.returns-in_err-row-clause-once
returns-in_err-row-clause-once g c = pieces_once c.args.tab c.args.pieces.now.start c.args.pieces.now.pieces c.requires.positive
