use Rattle.std.proofs.Common.{ap, ◌∙◌, refl}
use Rattle.pieces.specs.Filling.{FillingView}
use Rattle.pieces.specs.Rules.{pieces_of}
use Rattle.pieces.proofs.Fillings.{all_wanted}
use Rattle.pieces.proofs.block_pieces.whole_block.Goals as goal

pub returns : goal.returns
returns c =
    let all = pieces_of c.args.text.now.characters c.args.from c.args.to c.args.layers.now c.args.selection.now.ranges in
    c.into_pieces.ensures ∙ ap (λ (f : FillingView). f.pieces) c.in_ok-filling.ensures ∙ all_wanted c.args.goal all refl
