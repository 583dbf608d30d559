use Rattle.std.proofs.Common.{◌≡◌, true, sym, ◌∙◌}
use Rattle.cells.proofs.Printable.{are_printable, chars-printable, printable_cells}
use Rattle.cells.proofs.columns.columns_of.Goals as goal

pub returns-then-is_printable-clause-value : goal.returns-then-is_printable-clause-value
returns-then-is_printable-clause-value c =
    let all : are_printable c.args.text.now ≡ true = sym c.is_printable.ensures ∙ c.if-is_printable.true in
    rw (chars-printable c.args.text.now all) (sym (printable_cells c.args.tab c.args.start c.args.text.now all))
