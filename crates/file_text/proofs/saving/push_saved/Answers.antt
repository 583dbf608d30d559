use Rattle.std.proofs.Common.{[], ◌∷◌, ◌++◌, take, string_bytes, sym, ◌∙◌, ap, append_assoc}
use Rattle.file_text.specs.Files.{saved_bytes}
use Rattle.file_text.proofs.SavedPieces.{saved_more}
use Rattle.file_text.proofs.saving.push_saved.Goals as goal

pub loop-c-preserved : goal.loop-c-preserved
loop-c-preserved c =
    let cs = c.args.characters.now in
    let separator = c.args.separator.now in
    let i = c.loop-c.c-index in
    let one = saved_bytes separator (c.c-item.result ∷ []) in
    c.in_ok-push_saved_char.ensures ∙ ap (λ r. r ++ one) c.loop-c.invariant
    ∙ append_assoc (string_bytes c.args.saved.now) (saved_bytes separator (take i cs)) one
    ∙ ap (λ r. string_bytes c.args.saved.now ++ r) (sym (saved_more separator cs i c.c-item.result c.loop-c-test.true c.c-item.is))
