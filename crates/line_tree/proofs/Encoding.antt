-- Characters in UTF-8.
use Rattle.std.proofs.Common.{◌≡◌, ℕ, ◌+◌, List, [], ◌∷◌, ◌++◌, length, get_or, take, refl, sym, ◌∙◌, ap, append_assoc}
use Rattle.std.specs.Prelude.{encode_utf8, encode_utf8_all, ◌<◌}
use Rattle.std.proofs.lemmas.List.{append-nil, take_more}

pub encodes-append : (a b : List ℕ) → encode_utf8_all (a ++ b) ≡ encode_utf8_all a ++ encode_utf8_all b
encodes-append [] b = refl
encodes-append (c ∷ a) b = ap (λ r. encode_utf8 c ++ r) (encodes-append a b) ∙ sym (append_assoc (encode_utf8 c) (encode_utf8_all a) (encode_utf8_all b))

-- one character more
pub encodes_more : (cs : List ℕ) (i c : ℕ) → i < length cs → c ≡ get_or cs i c → encode_utf8_all (take (i + 1) cs) ≡ encode_utf8_all (take i cs) ++ encode_utf8 c
encodes_more cs i c l e =
    ap encode_utf8_all (take_more cs i c l ∙ ap (λ d. take i cs ++ d ∷ []) (sym e))
    ∙ encodes-append (take i cs) (c ∷ []) ∙ ap (λ r. encode_utf8_all (take i cs) ++ r) (append-nil (encode_utf8 c))
