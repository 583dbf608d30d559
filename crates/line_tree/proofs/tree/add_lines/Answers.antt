use Rattle.std.proofs.Common.{◌≡◌, ◌+◌, take, drop, ◌∙◌, arith}
use Rattle.line_tree.proofs.Breaking.{cut_at}
use Rattle.line_tree.proofs.Seams.{adds_two}
use Rattle.line_tree.proofs.tree.add_lines.Goals as goal

pub make_leaf-requires-3-clause-few : goal.make_leaf-requires-3-clause-few
make_leaf-requires-3-clause-few c =
    let k = cut_at c.args.leaf _ _ c.break_place-place.ensures in
    let suffix : c.in_ok-suffix.suffix ≡ drop (c.break_place-place.result + 1) c.args.leaf = c.in_ok-suffix.ensures ∙ rw c.len.ensures k.rest in
    rw suffix (omega (arith, k.second, c.requires.few, c.breaks.ensures))

pub returns : goal.returns
returns c =
    let cs = c.args.leaf in
    let place = c.break_place-place.result in
    let k = cut_at cs _ _ c.break_place-place.ensures in
    let f = c.in_ok-make_leaf-2.ensures in
    let b = c.in_ok-make_leaf-3.ensures in
    let prefix : c.in_ok-make_leaf-2.field-0.characters ≡ take place cs = f.0 ∙ c.in_ok-prefix.ensures in
    let rest : c.in_ok-suffix.suffix ≡ drop (place + 1) cs = c.in_ok-suffix.ensures ∙ rw c.len.ensures k.rest in
    let suffix : c.in_ok-make_leaf-3.field-0.characters ≡ drop (place + 1) cs = b.0 ∙ rest in
    adds_two 0 cs _ _ _ c.in_ok-make_leaf-2.field-0 c.in_ok-make_leaf-3.field-0 f.1 b.1
    (k.whole ∙ rw (← prefix, ← suffix))
    c.in_ok-push-2.ensures.items c.in_ok-push-3.ensures.items
