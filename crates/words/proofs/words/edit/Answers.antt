use Rattle.std.proofs.Common.{◌≡◌, ◌∙◌, ap, codes, sym}
use Rattle.std.specs.Prelude.{None, Some, option_map}
use Rattle.clap.specs.Words.{first_of, found_of, rows_of}
use Rattle.words.specs.PrivateCommand.{number_in}
use Rattle.words.proofs.Read.{first_given}
use Rattle.words.proofs.words.edit.Goals as goal

pub returns-in_default : goal.returns-in_default
returns-in_default c =
    let file : first_of (codes "FILE") (rows_of (found_of c.args.given.now)) ≡ None =
    first_given (found_of c.args.given.now) (codes "FILE") c.get_str.result c.get_str.ensures ∙ ap (option_map (λ s. s.now)) c.in_default.is in
    simp file

pub returns : goal.returns
returns c =
    let file : first_of (codes "FILE") (rows_of (found_of c.args.given.now)) ≡ Some c.in-Some.file.now =
    first_given (found_of c.args.given.now) (codes "FILE") c.get_str.result c.get_str.ensures ∙ ap (option_map (λ s. s.now)) c.in-Some.is in
    let rows : number_in 3 (codes "ROWS") (rows_of (found_of c.args.given.now)) ≡ Some c.in-Some-number.rows = sym c.number.ensures ∙ c.in-Some-number.is in
    let cols : number_in 3 (codes "COLS") (rows_of (found_of c.args.given.now)) ≡ Some c.in-Some-number-2.cols = sym c.number-2.ensures ∙ c.in-Some-number-2.is in
    simp (file, rows, cols, c.in_ok-file.ensures)
