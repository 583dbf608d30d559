use Rattle.std.proofs.Common.{◌+◌, ◌++◌, sym, ◌∙◌, ap, arith}
use Rattle.line_tree.specs.Text.{slice}
use Rattle.file_text.specs.Files.{saved_bytes}
use Rattle.file_text.proofs.SavedPieces.{saved_slice}
use Rattle.file_text.proofs.saving.saved_string.Goals as goal

pub loop-pos-preserved : goal.loop-pos-preserved
loop-pos-preserved c =
    let cs = c.args.text.now.characters in
    let separator = c.args.separator.now in
    let from = c.loop-pos.pos in
    let to = from + c.min.result in
    record {
      within = omega arith;
      value = c.in_ok-push_block.ensures ∙ ap (λ r. r ++ saved_bytes separator (slice from to cs)) c.loop-pos.invariant.value ∙ sym (saved_slice separator cs from to (omega arith));
    }
