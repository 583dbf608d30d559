use Rattle.std.proofs.Common.{List, ap, ◌∙◌}
use Rattle.pieces.specs.Items.{ItemView, items_of}
use Rattle.pieces.specs.Filling.{all_put}
use Rattle.pieces.specs.Pieces.{BlockView, block_of, walked}
use Rattle.pieces.proofs.Ruled.{items-forward, items-rise, walked-ruled}
use Rattle.pieces.proofs.block_pieces.filling_of.Goals as goal

pub returns : goal.returns
returns c =
    let b = block_of c.args.text.now.characters c.args.from c.args.to c.args.layers.now c.args.selection.now.ranges in
    let items = items_of c.args.from c.args.to c.args.layers.now in
    let list =
    ap (λ (v : BlockView). walked v v.from c.in_ok-items.items.items) c.in_ok-block.ensures.block
    ∙ (ap (λ (xs : List ItemView). walked b b.from xs) c.in_ok-items.ensures
    ∙ walked-ruled b items (items-forward c.args.from c.args.to c.args.layers.now) (items-rise c.args.from c.args.to c.args.layers.now)) in
    let style = ap (λ (v : BlockView). v.style) c.in_ok-block.ensures.block in
    c.in_ok-filling.ensures ∙ ap (all_put c.args.goal) (λ i. record { style = style i; start = 0; pieces = list i })
