use Rattle.std.proofs.Common.{◌≡◌, ℕ, zero, suc, ◌+◌, ◌-◌, ◌<◌, length, arith}
use Rattle.line_tree.specs.Lines.{lines_of}
use Rattle.blocks.proofs.Finding.{count_is, sound_at}
use Rattle.blocks.proofs.searching.block_count.Goals as goal

pub overflow_sub-result : goal.overflow_sub-result
overflow_sub-result c =
    let joins = rw c.requires.lines at c.requires.order in
    let s = sound_at _ (length (lines_of c.args.text.now.characters)) c.args.joins.now.list.items c.before-before.result joins (omega (arith, c.len.ensures)) c.before-before.ensures in
    let within = s.within in
    omega (arith, within, c.lines.ensures.value)

pub overflow_add-result : goal.overflow_add-result
overflow_add-result c =
    let joins = rw c.requires.lines at c.requires.order in
    let s = sound_at _ (length (lines_of c.args.text.now.characters)) c.args.joins.now.list.items c.before-before.result joins (omega (arith, c.len.ensures)) c.before-before.ensures in
    let within = s.within in
    let low = s.low in
    omega (arith, within, low, c.lines.ensures.value)

pub returns-clause-value : goal.returns-clause-value
returns-clause-value c =
    let joins = rw c.requires.lines at c.requires.order in
    let all : c.len.result ≡ length c.args.joins.now.list.items = omega (arith, c.len.ensures) in
    let is = rw all at c.before-before.ensures in
    let count = count_is c.args.text.now.characters c.args.joins.now.list.items c.before-before.result (omega (arith, c.lines.ensures.value, c.lines.ensures.some)) joins is in
    omega (arith, count, c.lines.ensures.value)

pub returns-clause-some : goal.returns-clause-some
returns-clause-some c =
    let joins = rw c.requires.lines at c.requires.order in
    let s = sound_at _ (length (lines_of c.args.text.now.characters)) c.args.joins.now.list.items c.before-before.result joins (omega (arith, c.len.ensures)) c.before-before.ensures in
    some c.before-before.result.number c.before-before.result.last c.lines.result c.lines.ensures.some s.numbered
  where
    some : (number last lines : ℕ) → 0 < lines → (0 < last → 0 < number) → 0 < number + (lines - last)
    some number zero lines more numbered = omega (arith, more)
    some number (suc last) lines more numbered = let here = numbered (omega arith) in omega (arith, here)
