use Rattle.std.proofs.Common.{◌≡◌, ◌+◌, ◌-◌, ◌++◌, length, take, drop, ap, sym, ◌∙◌, arith, append_assoc, length-append}
use Rattle.std.proofs.lemmas.Result.{on_ok_weaker}
use Rattle.std.specs.List.{concat}
use Rattle.line_tree.proofs.Inside.{window}
use Rattle.line_tree.proofs.leaf_builder.LeafBuilder.push_leaf_slice.Goals as goal

pub returns : goal.returns
returns c =
    let first = concat c.leaf.inside.chunks.items in
    let last = c.leaf.inside.last.items in
    let row = c.as_slice-2.result.now in
    let self = c.args.self.now in
    let start = c.min-start.result in
    let now = c.min-now.result in
    let skip = c.args.from - start in
    let rest = c.args.count - now in
    let chunked : c.leaf.inside.len - c.len.result ≡ length first = omega (arith, c.leaf.invariant.len_is, length-append first last, c.len.ensures) in
    let w = window first last c.args.from c.args.count start now (omega (arith, c.min-start.ensures, chunked)) (omega (arith, c.min-now.ensures, chunked)) in
    let put : c.push_chunks.new.self ≡ self ++ take now (drop start first) =
    c.in_ok-push_chunks.ensures ∙ ap (λ cs. self ++ take now (drop start (concat cs))) c.as_slice.ensures.value in
    let count : skip + rest - skip ≡ rest = omega arith in
    let added : take (skip + rest - skip) (drop skip row) ≡ take rest (drop skip last) =
    ap (λ n. take n (drop skip row)) count ∙ ap (λ r. take rest (drop skip r)) c.as_slice-2.ensures.value in
    on_ok_weaker c.push_all.result
    (λ e. e ∙ ap (λ r. c.push_chunks.new.self ++ r) added ∙ ap (λ r. r ++ take rest (drop skip last)) put
    ∙ append_assoc self (take now (drop start first)) (take rest (drop skip last))
    ∙ ap (λ r. self ++ r) (sym w ∙ ap (λ r. take c.args.count (drop c.args.from r)) c.leaf.view_is)) c.push_all.ensures
