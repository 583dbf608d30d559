use Rattle.std.proofs.Common.{◌≡◌, ℕ, ap, sym, ◌∙◌, refl, arith}
use Rattle.pieces.specs.Filling.{FillingView, wanted}
use Rattle.pieces.specs.Rules.{pieces_of}
use Rattle.pieces.proofs.Fillings.{all_wanted}
use Rattle.pieces.proofs.Tells.{part_tells}
use Rattle.pieces.proofs.block_pieces.in_part.Goals as goal

pub returns-then-stop-to : goal.returns-then-stop-to
returns-then-stop-to c =
    let same : c.args.stop ≡ c.args.to = omega (arith, c.if-stop-to.true) in
    let all = pieces_of c.args.text.now.characters c.args.from c.args.stop c.args.layers.now c.args.selection.now.ranges in
    c.into_pieces.ensures ∙ ap (λ (f : FillingView). f.pieces) c.in_ok-filling.ensures ∙ all_wanted c.args.goal all refl
    ∙ ap (λ (end : ℕ). wanted c.args.goal (pieces_of c.args.text.now.characters c.args.from end c.args.layers.now c.args.selection.now.ranges)) same

pub returns-then-is_over : goal.returns-then-is_over
returns-then-is_over c =
    c.into_pieces-then-is_over.ensures
    ∙ part_tells c.args.text.now.characters c.args.from c.args.stop c.args.to c.args.layers.now c.args.selection.now.ranges c.args.goal c.in_ok-filling.filling
    c.requires.part c.requires.within c.in_ok-filling.ensures (sym c.is_over.ensures ∙ c.if-is_over.true)
