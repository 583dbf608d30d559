use Rattle.std.proofs.Common.{◌≡◌, ◌-◌, ◌≤◌, length, take, drop, ap, ◌∙◌, arith, length-append}
use Rattle.std.specs.List.{concat}
use Rattle.line_tree.specs.Breaks.{count_breaks}
use Rattle.line_tree.proofs.Counts.{count-append, count_parts}
use Rattle.line_tree.proofs.Rows.{count_rest}
use Rattle.line_tree.proofs.leaf.Leaf.breaks_before.Goals as goal

pub returns-then-before-after : goal.returns-then-before-after
returns-then-before-after c =
    let first = concat c.self.inside.chunks.items in
    let last = c.self.inside.last.items in
    let start : c.self.inside.len - c.len.result ≡ length first = omega (arith, c.self.invariant.len_is, length-append first last, c.len.ensures) in
    let low : length first ≤ c.args.pos = omega (arith, c.if-pos-start.false, start) in
    let n = c.args.pos - length first in
    let chunks : c.breaks_of.result ≡ count_breaks first = c.breaks_of.ensures ∙ ap (λ cs. count_breaks (concat cs)) c.as_slice-chunks.ensures.value in
    let before : c.breaks_in.result ≡ count_breaks (take n last) =
    c.breaks_in.ensures ∙ ap count_breaks (c.split_at.ensures.front ∙ ap (take (c.args.pos - (c.self.inside.len - c.len.result))) c.as_slice.ensures.value ∙ ap (λ k. take (c.args.pos - k) last) start) in
    omega (arith, chunks, before, count_rest first last c.args.pos low, count_parts last n, count-append first last, ap (λ t. count_breaks (take c.args.pos t)) c.self.view_is)

pub returns-else-before-after : goal.returns-else-before-after
returns-else-before-after c =
    let first = concat c.self.inside.chunks.items in
    let last = c.self.inside.last.items in
    let start : c.self.inside.len - c.len.result ≡ length first = omega (arith, c.self.invariant.len_is, length-append first last, c.len.ensures) in
    let low : length first ≤ c.args.pos = omega (arith, c.if-pos-start.false, start) in
    let after : c.breaks_in-else-before-after.result ≡ count_breaks (drop (c.args.pos - length first) last) =
    c.breaks_in-else-before-after.ensures ∙ ap count_breaks (c.split_at.ensures.back ∙ ap (drop (c.args.pos - (c.self.inside.len - c.len.result))) c.as_slice.ensures.value ∙ ap (λ k. drop (c.args.pos - k) last) start) in
    omega (arith, after, count_rest first last c.args.pos low, c.self.invariant.breaks_is, ap (λ t. count_breaks (take c.args.pos t)) c.self.view_is)
