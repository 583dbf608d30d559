use Rattle.std.proofs.Common.{◌≡◌, chars, sym, ap, ◌∙◌}
use Rattle.std.proofs.lemmas.Str.{chars_from_encodes}
use Rattle.term_bytes.specs.Frame.{separated_codes}
use Rattle.term_bytes.proofs.shown_rows.shown_run.Goals as goal

pub returns : goal.returns
returns c =
    let run = c.args.run.now in
    let text : c.in_ok-text.text ≡ run.text = c.in_ok-text.ensures ∙ sym (chars_from_encodes run.text c.text.result.now c.text.utf8 (sym c.text.ensures)) in
    let codes : c.in_ok-codes-2.codes ≡ separated_codes run.style =
    c.in_ok-codes-2.ensures ∙ (ap chars c.as_str.ensures.value ∙ (c.in_ok-codes.ensures.characters ∙ ap separated_codes c.style.ensures)) in
    λ i. record { text = text i; codes = codes i }
