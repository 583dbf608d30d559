use Rattle.std.proofs.Common.{sym, rules}
use Rattle.decoration.proofs.LineStarts.{line_start, no_line_start}
use Rattle.decoration.proofs.placing.starts_line.Goals as goal

pub returns-then-pos-len : goal.returns-then-pos-len
returns-then-pos-len c =
    let e = no_line_start c.args.text.now.characters c.args.pos in
    search (rules, e)

pub returns : goal.returns
returns c =
    let e = line_start c.args.text.now.characters c.args.pos c.line_at-line.result c.line_at-line.ensures.line c.line_at-line.ensures.starts c.line_at-line.ensures.ends in
    search (rules, sym e)
