use Rattle.std.proofs.Common.{◌≡◌, ◌+◌, ◌-◌, ◌++◌, length, ◌∙◌, ap, subst, arith, length-append}
use Rattle.std.specs.List.{concat}
use Rattle.line_tree.specs.Breaks.{count_breaks, IsBreakAt}
use Rattle.line_tree.proofs.Rows.{break_second}
use Rattle.line_tree.proofs.leaf.Leaf.break_place.Goals as goal

pub returns : goal.returns
returns c =
    let first = concat c.self.inside.chunks.items in
    let last = c.self.inside.last.items in
    let inside = c.args.before - c.breaks_of-first.result in
    let place = c.break_place_in.result in
    let counted : c.breaks_of-first.result ≡ count_breaks first = c.breaks_of-first.ensures ∙ ap (λ ps. count_breaks (concat ps)) c.as_slice-chunks.ensures.value in
    let start : c.self.inside.len - c.len.result ≡ length first = omega (arith, c.self.invariant.len_is, length-append first last, c.len.ensures) in
    let there : IsBreakAt last inside place = subst (λ t. IsBreakAt t inside place) c.as_slice.ensures.value c.break_place_in.ensures in
    let one : IsBreakAt (first ++ last) (count_breaks first + inside) (length first + place) = break_second first last inside place there in
    let before : count_breaks first + inside ≡ c.args.before = omega (arith, counted, c.if-before-first.false) in
    let at : length first + place ≡ c.self.inside.len - c.len.result + place = omega (arith, start) in
    let two = subst (λ k. IsBreakAt (first ++ last) k (length first + place)) before one in
    let three = subst (λ k. IsBreakAt (first ++ last) c.args.before k) at two in
    subst (λ t. IsBreakAt t c.args.before (c.self.inside.len - c.len.result + place)) c.self.view_is three
