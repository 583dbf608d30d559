use Rattle.std.proofs.Common.{◌≡◌, ◌++◌, length, ◌∙◌, ap, arith}
use Rattle.std.specs.List.{concat}
use Rattle.line_tree.proofs.Concats.{piece_more, counted_more}
use Rattle.line_tree.proofs.leaf_builder.LeafBuilder.share.Goals as goal

pub invariant_of-self-2 : goal.invariant_of-self-2
invariant_of-self-2 c =
    let e = piece_more c.end_last.new.chunks.items c.end_last.new.pieces.items c.push.new.self.items c.end_last.new.last.items c.in_ok-copy.copy c.in_ok-push.ensures.items c.in_ok-end_last.ensures.no_last in
    let run : c.in_ok-copy.copy ≡ c.args.piece.now = c.in_ok-copy.ensures in
    let b = c.self.inside in
    let n = counted_more _ _ c.args.piece.now _ _ c.self.invariant (e ∙ ap (λ r. r ++ c.in_ok-copy.copy) c.end_last.ensures.same ∙ ap (λ r. (concat b.chunks.items ++ (concat b.pieces.items ++ b.last.items)) ++ r) run)
    (omega (arith, c.requires, ap length c.self.view_is)) in
    rw (c.len.ensures, c.breaks.ensures) n

pub returns : goal.returns
returns c =
    let e = piece_more c.end_last.new.chunks.items c.end_last.new.pieces.items c.push.new.self.items c.end_last.new.last.items c.in_ok-copy.copy c.in_ok-push.ensures.items c.in_ok-end_last.ensures.no_last in
    let run : c.in_ok-copy.copy ≡ c.args.piece.now = c.in_ok-copy.ensures in
    e ∙ ap (λ r. r ++ c.in_ok-copy.copy) (c.end_last.ensures.same ∙ c.self.view_is) ∙ ap (λ r. c.args.self.now ++ r) run
