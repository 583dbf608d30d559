use Rattle.std.proofs.Common.{◌≡◌, ◌/◌, take, drop, ap, ◌∙◌, arith}
use Rattle.line_tree.specs.Parts.{joined}
use Rattle.line_tree.proofs.Seams.{HaveHeight-take, HaveHeight-drop, part_lengths, split_parts, adds_two}
use Rattle.line_tree.proofs.tree.add_level.Goals as goal

pub make_branch-requires-2-clause-same : goal.make_branch-requires-2-clause-same
make_branch-requires-2-clause-same c = rw c.in_ok-rest.ensures.items (HaveHeight-take _ _ _ c.requires.same)

pub make_branch-requires-2-clause-fits : goal.make_branch-requires-2-clause-fits
make_branch-requires-2-clause-fits c =
    let half = c.len-half.result / 2 in
    rw c.in_ok-rest.ensures.items (omega (arith, part_lengths c.args.parts.items half (omega arith) (omega arith)))

pub make_branch-requires-3-clause-same : goal.make_branch-requires-3-clause-same
make_branch-requires-3-clause-same c = rw c.in_ok-rest.ensures.tail (HaveHeight-drop _ _ _ c.requires.same)

pub make_branch-requires-3-clause-fits : goal.make_branch-requires-3-clause-fits
make_branch-requires-3-clause-fits c =
    let half = c.len-half.result / 2 in
    rw c.in_ok-rest.ensures.tail (omega (arith, part_lengths c.args.parts.items half (omega arith) (omega arith)))

pub returns : goal.returns
returns c =
    let half = c.len-half.result / 2 in
    let f = c.in_ok-make_branch-2.ensures in
    let b = c.in_ok-make_branch-3.ensures in
    let prefix : c.in_ok-make_branch-2.field-0.characters ≡ joined (take half c.args.parts.items) = f.0 ∙ ap joined c.in_ok-rest.ensures.items in
    let suffix : c.in_ok-make_branch-3.field-0.characters ≡ joined (drop half c.args.parts.items) = b.0 ∙ ap joined c.in_ok-rest.ensures.tail in
    adds_two _ _ _ _ _ c.in_ok-make_branch-2.field-0 c.in_ok-make_branch-3.field-0 f.1 b.1
    (split_parts c.args.parts.items half (omega arith) (omega arith) ∙ rw (← prefix, ← suffix))
    c.in_ok-push-2.ensures.items c.in_ok-push-3.ensures.items
