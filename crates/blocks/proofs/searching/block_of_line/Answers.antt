use Rattle.std.proofs.Common.{◌+◌, ◌-◌, refl, arith}
use Rattle.blocks.specs.Joins.{none}
use Rattle.blocks.proofs.Finding.{join_block, line_block, own_ends, sound_at}
use Rattle.blocks.proofs.Lines.{line_positive}
use Rattle.blocks.proofs.searching.block_of_line.Goals as goal

pub lines_block-requires-clause-first : goal.lines_block-requires-clause-first
lines_block-requires-clause-first c =
    let s = sound_at _ c.args.joins.now.lines c.args.joins.now.list.items c.before-before.result c.requires.order c.count_from.ensures.within c.before-before.ensures in
    let some = line_positive c.args.text.now.characters c.args.line c.requires.line in
    s.first (omega (arith, c.if-line-before.true, some))

pub lines_block-requires-clause-last : goal.lines_block-requires-clause-last
lines_block-requires-clause-last c =
    let s = sound_at _ c.args.joins.now.lines c.args.joins.now.list.items c.before-before.result c.requires.order c.count_from.ensures.within c.before-before.ensures in
    let within = s.within in
    omega (arith, within, c.requires.lines)

pub overflow_add-before : goal.overflow_add-before
overflow_add-before c =
    let s = sound_at _ c.args.joins.now.lines c.args.joins.now.list.items c.before-before.result c.requires.order c.count_from.ensures.within c.before-before.ensures in
    let low = s.low in
    omega (arith, low, c.if-line-before.false)

pub returns-then-line-before-clause-block : goal.returns-then-line-before-clause-block
returns-then-line-before-clause-block c =
    let joins = rw c.requires.lines at c.requires.order in
    let some = line_positive c.args.text.now.characters c.args.line c.requires.line in
    let found =
    join_block c.count_from.result c.args.text.now.characters c.args.joins.now.list.items c.before-before.result c.lines_block.result.from c.lines_block.result.to joins
    c.count_from.ensures.within c.before-before.ensures (omega (arith, c.if-line-before.true, some)) c.lines_block.ensures.ends in
    rw c.lines_block.ensures.number found

pub returns-else-line-before-clause-block : goal.returns-else-line-before-clause-block
returns-else-line-before-clause-block c =
    let joins = rw c.requires.lines at c.requires.order in
    let line = c.args.line in
    let found =
    line_block c.count_from.result c.args.text.now.characters c.args.joins.now.list.items c.before-before.result line.number (c.before-before.result.number + (line.number - c.before-before.result.last))
    line.from line.to joins c.count_from.ensures.within c.before-before.ensures (omega (arith, c.if-line-before.false)) (λ more. c.count_from.ensures.next none more) refl
    (own_ends c.args.text.now.characters line c.requires.line) in
    rw c.one_line.ensures found

pub returns-else-line-before-clause-ends : goal.returns-else-line-before-clause-ends
returns-else-line-before-clause-ends c = rw c.one_line.ensures (own_ends c.args.text.now.characters c.args.line c.requires.line)
