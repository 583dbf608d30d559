use Rattle.std.proofs.Common.{◌≡◌, ◌∙◌, arith, false, rules, sym}
use Rattle.words.proofs.Read.{first_byte, parse_writes}
use Rattle.words.proofs.words.number_of.Goals as goal

pub returns : goal.returns
returns c =
    let unsigned : c.starts_with.result ≡ false = search rules in
    let plus = sym (first_byte 43 c.args.text.now (omega arith)) ∙ (sym (c.starts_with.ensures.byte (omega arith) (omega arith) (λ w o h. h)) ∙ unsigned) in
    c.ok.ensures.value ∙ parse_writes c.args.places c.args.text.now c.parse.result c.parse.ensures.value.0 (omega (arith, c.if-text-places.false)) c.requires plus
