use Rattle.std.proofs.Common.{◌++◌, take, string_bytes, sym, ◌∙◌, ap, append_assoc}
use Rattle.std.specs.Prelude.{encode_utf8, encode_utf8_all}
use Rattle.line_tree.proofs.Encoding.{encodes_more}
use Rattle.line_rows.proofs.runs.push_characters.Goals as goal

pub loop-character-preserved : goal.loop-character-preserved
loop-character-preserved c =
    let cs = c.args.characters.now in
    let i = c.loop-character.character-index in
    c.in_ok-push.ensures.bytes ∙ ap (λ r. r ++ encode_utf8 c.character-item.result) c.loop-character.invariant
    ∙ append_assoc (string_bytes c.args.text.now) (encode_utf8_all (take i cs)) (encode_utf8 c.character-item.result)
    ∙ ap (λ r. string_bytes c.args.text.now ++ r) (sym (encodes_more cs i c.character-item.result c.loop-character-test.true c.character-item.is))
