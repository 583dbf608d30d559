use Rattle.std.proofs.Common.{◌≡◌, ℕ, ◌≤◌, List, get_or, ◌∷◌, arith}
use Rattle.blocks.specs.Joins.{none}
use Rattle.blocks.specs.declared.joins.Join.{Join}
use Rattle.blocks.proofs.Covered.{some_line}
use Rattle.blocks.proofs.Finding.{join_block, line_block, line_in, own_ends, sound_at}
use Rattle.blocks.proofs.searching.numbered_block.Goals as goal

pub lines_block-requires-clause-first : goal.lines_block-requires-clause-first
lines_block-requires-clause-first c =
    let s = sound_at _ c.args.joins.now.lines c.args.joins.now.list.items c.before-before.result c.requires.order c.count_to.ensures.within c.before-before.ensures in
    let low = s.low in
    s.first (omega (arith, low, c.if-number-before.true, c.requires.first))

pub lines_block-requires-clause-order : goal.lines_block-requires-clause-order
lines_block-requires-clause-order c =
    (sound_at _ c.args.joins.now.lines c.args.joins.now.list.items c.before-before.result c.requires.order c.count_to.ensures.within c.before-before.ensures).order

pub lines_block-requires-clause-last : goal.lines_block-requires-clause-last
lines_block-requires-clause-last c =
    let s = sound_at _ c.args.joins.now.lines c.args.joins.now.list.items c.before-before.result c.requires.order c.count_to.ensures.within c.before-before.ensures in
    let within = s.within in
    omega (arith, within, c.requires.lines)

begun_by : (js : List Join) (i n : ℕ) (g : Join) → g ≡ get_or (none ∷ js) i none → (get_or (none ∷ js) i none).number ≤ n → g.number ≤ n
begun_by js i n g is at = rw is at

pub line-line-requires-clause-last : goal.line-line-requires-clause-last
line-line-requires-clause-last c =
    let joins = rw c.requires.lines at c.requires.order in
    (line_in c.count_to.result c.args.number c.args.text.now.characters c.args.joins.now.list.items c.before-before.result (some_line c.args.text.now.characters) joins
    c.count_to.ensures.within c.before-before.ensures (λ more. c.count_to.ensures.next none more) (begun_by c.args.joins.now.list.items c.count_to.result c.args.number c.before-before.result c.before-before.ensures c.count_to.ensures.begun) c.requires.last).0

pub overflow_add-before : goal.overflow_add-before
overflow_add-before c =
    let joins = rw c.requires.lines at c.requires.order in
    let inside =
    (line_in c.count_to.result c.args.number c.args.text.now.characters c.args.joins.now.list.items c.before-before.result (some_line c.args.text.now.characters) joins
    c.count_to.ensures.within c.before-before.ensures (λ more. c.count_to.ensures.next none more) (begun_by c.args.joins.now.list.items c.count_to.result c.args.number c.before-before.result c.before-before.ensures c.count_to.ensures.begun) c.requires.last).0 in
    let fits = c.well_formed in
    omega (arith, inside, c.requires.lines)

pub returns-then-number-before-clause-block : goal.returns-then-number-before-clause-block
returns-then-number-before-clause-block c =
    let joins = rw c.requires.lines at c.requires.order in
    let s = sound_at _ c.args.joins.now.lines c.args.joins.now.list.items c.before-before.result c.requires.order c.count_to.ensures.within c.before-before.ensures in
    let low = s.low in
    let found =
    join_block c.count_to.result c.args.text.now.characters c.args.joins.now.list.items c.before-before.result c.lines_block.result.from c.lines_block.result.to joins
    c.count_to.ensures.within c.before-before.ensures (omega (arith, low, c.if-number-before.true, c.requires.first)) c.lines_block.ensures.ends in
    rw c.if-number-before.true found

pub returns-then-number-before-clause-order : goal.returns-then-number-before-clause-order
returns-then-number-before-clause-order c =
    let s = sound_at _ c.args.joins.now.lines c.args.joins.now.list.items c.before-before.result c.requires.order c.count_to.ensures.within c.before-before.ensures in
    let order = s.order in
    omega (arith, order, c.lines_block.ensures.first, c.lines_block.ensures.last)

pub returns-else-number-before-clause-block : goal.returns-else-number-before-clause-block
returns-else-number-before-clause-block c =
    let joins = rw c.requires.lines at c.requires.order in
    let from = begun_by c.args.joins.now.list.items c.count_to.result c.args.number c.before-before.result c.before-before.ensures c.count_to.ensures.begun in
    let inside =
    line_in c.count_to.result c.args.number c.args.text.now.characters c.args.joins.now.list.items c.before-before.result (some_line c.args.text.now.characters) joins
    c.count_to.ensures.within c.before-before.ensures (λ more. c.count_to.ensures.next none more) from c.requires.last in
    let line = c.line-line.result in
    let number = c.line-line.ensures.number in
    let found =
    line_block c.count_to.result c.args.text.now.characters c.args.joins.now.list.items c.before-before.result line.number c.args.number
    line.from line.to joins c.count_to.ensures.within c.before-before.ensures
    (omega (arith, from, number, c.if-number-before.false)) (λ more. let here = inside.1 more in omega (arith, here, number)) (omega (arith, from, number))
    (own_ends c.args.text.now.characters line c.line-line.ensures.line) in
    rw c.one_line.ensures found

pub returns-else-number-before-clause-ends : goal.returns-else-number-before-clause-ends
returns-else-number-before-clause-ends c = rw c.one_line.ensures (own_ends c.args.text.now.characters c.line-line.result c.line-line.ensures.line)
