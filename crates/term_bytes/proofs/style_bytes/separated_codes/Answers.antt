use Rattle.std.proofs.Common.{ℕ, ◌++◌, List, chars, drop, ap, ◌∙◌}
use Rattle.std.proofs.lemmas.Str.{chars-IsAscii, IsAscii-drop}
use Rattle.term_bytes.specs.Frame.{style_codes}
use Rattle.term_bytes.proofs.Codes.{codes_ascii}
use Rattle.term_bytes.proofs.style_bytes.separated_codes.Goals as goal

pub returns-clause-characters : goal.returns-clause-characters
returns-clause-characters c =
    let s = c.args.style in
    let pushed = c.in_ok-push_codes.ensures ∙ ap (λ (bs : List ℕ). bs ++ style_codes s) c.new-codes.ensures.bytes in
    ap chars (c.remove_first.ensures ∙ ap (drop 1) pushed) ∙ chars-IsAscii (drop 1 (style_codes s)) (IsAscii-drop (style_codes s) 1 (codes_ascii s))
