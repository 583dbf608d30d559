use Rattle.std.proofs.Common.{◌++◌, take, string_bytes, sym, ◌∙◌, ap, append_assoc}
use Rattle.std.specs.Prelude.{encode_utf8, encode_utf8_all}
use Rattle.line_tree.proofs.Encoding.{encodes_more}
use Rattle.file_text.proofs.saving.push_characters.Goals as goal

pub loop-c-preserved : goal.loop-c-preserved
loop-c-preserved c =
    let cs = c.args.characters.now in
    let i = c.loop-c.c-index in
    c.in_ok-push.ensures.bytes ∙ ap (λ r. r ++ encode_utf8 c.c-item.result) c.loop-c.invariant
    ∙ append_assoc (string_bytes c.args.saved.now) (encode_utf8_all (take i cs)) (encode_utf8 c.c-item.result)
    ∙ ap (λ r. string_bytes c.args.saved.now ++ r) (sym (encodes_more cs i c.c-item.result c.loop-c-test.true c.c-item.is))
