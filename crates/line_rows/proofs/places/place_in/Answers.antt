use Rattle.std.proofs.Common.{◌≡◌, true, sym, ◌∙◌}
use Rattle.std.specs.Str.{chars}
use Rattle.cells.proofs.Printable.{are_printable}
use Rattle.line_rows.proofs.PlaceSteps.{printable_chars, printable_place, printable_told}
use Rattle.line_rows.proofs.places.place_in.Goals as goal

pub returns-then-is_printable-clause-place : goal.returns-then-is_printable-clause-place
returns-then-is_printable-clause-place c =
    let all : are_printable c.args.part.now ≡ true = sym c.is_printable.ensures ∙ c.if-is_printable.true in
    printable_place c.args.tab c.args.pos c.args.len _ _ (chars c.args.part.now) (printable_chars c.args.part.now all) c.requires.len c.printable_place.ensures.column c.printable_place.ensures.width

pub returns-then-is_printable-clause-told : goal.returns-then-is_printable-clause-told
returns-then-is_printable-clause-told c = λ more.
    let all : are_printable c.args.part.now ≡ true = sym c.is_printable.ensures ∙ c.if-is_printable.true in
    printable_told c.args.pos c.args.len (chars c.args.part.now) (printable_chars c.args.part.now all) c.requires.len (c.printable_place.ensures.told more)
