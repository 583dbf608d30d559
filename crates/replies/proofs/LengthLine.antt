-- The line that answers with a length.
use Rattle.std.proofs.Common.{◌≡◌, ℕ, List, [], ◌∷◌, ◌++◌, codes, decimal, ap, ◌∙◌, append_assoc}
use Rattle.serde_json.proofs.OnLiterals.{serde_json_on_literals}
use Rattle.replies.specs.declared.answer.Answer.TheVariants.{Length}
use Rattle.replies.specs.declared.answer.Reply.TheVariants.{Ok}
use Rattle.replies.specs.Replies.{reply_text}

together : (digits : List ℕ) → ((digits ++ 125 ∷ []) ++ 125 ∷ []) ++ 10 ∷ [] ≡ digits ++ 125 ∷ 125 ∷ 10 ∷ []
together digits = append_assoc (digits ++ 125 ∷ []) (125 ∷ []) (10 ∷ []) ∙ append_assoc digits (125 ∷ []) (125 ∷ 10 ∷ [])

pub length_line : (n : ℕ) → reply_text (Ok (Length n)) ≡ codes "{\"ok\":{\"length\":" ++ (decimal n ++ codes "}}\n")
unfolding serde_json_on_literals reply_text
length_line n = ap (λ t. codes "{\"ok\":{\"length\":" ++ t) (together (decimal n))
