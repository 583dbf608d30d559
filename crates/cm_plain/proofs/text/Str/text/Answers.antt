use Rattle.std.proofs.Common.{◌≡◌, ℕ, List, [], ◌∷◌, ◌++◌, sym, ap, refl, ◌∙◌, append_assoc}
use Rattle.std.specs.Prelude.{encode_utf8, encode_utf8_all}
use Rattle.std.proofs.lemmas.List.{take_more, append-nil}
use Rattle.cm_plain.proofs.text.Str.text.Goals as goal

encodes_push : (cs : List ℕ) (c : ℕ) → encode_utf8_all (cs ++ c ∷ []) ≡ encode_utf8_all cs ++ encode_utf8 c
encodes_push [] c = append-nil (encode_utf8 c)
encodes_push (x ∷ xs) c = ap (λ r. encode_utf8 x ++ r) (encodes_push xs c) ∙ sym (append_assoc (encode_utf8 x) (encode_utf8_all xs) (encode_utf8 c))

pub loop-c-preserved : goal.loop-c-preserved
loop-c-preserved c =
    let xs = c.deref-c-items.result.now in
    let more = take_more xs c.loop-c.c-index c.c-item.result c.loop-c-test.true in
    rw (more, ← c.c-item.is, encodes_push, c.in_ok-push.ensures.bytes, c.loop-c.invariant) refl
