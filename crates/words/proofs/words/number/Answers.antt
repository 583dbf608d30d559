use Rattle.std.proofs.Common.{◌∙◌, ap, sym}
use Rattle.std.specs.Prelude.{option_map}
use Rattle.std.specs.Option.{option_and_then}
use Rattle.clap.specs.Words.{found_of}
use Rattle.words.specs.PrivateCommand.{written}
use Rattle.words.proofs.Read.{first_given}
use Rattle.words.proofs.words.number.Goals as goal

pub returns-in_err-get_str : goal.returns-in_err-get_str
returns-in_err-get_str c =
    let text = first_given (found_of c.args.given.now) c.args.id.now c.get_str.result c.get_str.ensures ∙ ap (option_map (λ s. s.now)) c.in_err-get_str.was in
    c.from_residual.ensures ∙ sym (ap (option_and_then (written c.args.places)) text)

pub returns : goal.returns
returns c =
    let text = first_given (found_of c.args.given.now) c.args.id.now c.get_str.result c.get_str.ensures ∙ ap (option_map (λ s. s.now)) c.in_ok-get_str.was in
    c.number_of.ensures ∙ sym (ap (option_and_then (written c.args.places)) text)
