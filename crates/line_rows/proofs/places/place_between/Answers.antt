use Rattle.std.proofs.Common.{◌≡◌, ◌-◌, length, true, sym}
use Rattle.line_tree.specs.Text.{slice}
use Rattle.cells.proofs.Printable.{are_printable}
use Rattle.pieces.proofs.Walks.{length-slice}
use Rattle.line_rows.proofs.PlaceSteps.{printable_place, printable_told}
use Rattle.line_rows.proofs.places.place_between.Goals as goal

pub returns-then-is_printable_run-clause-place : goal.returns-then-is_printable_run-clause-place
returns-then-is_printable_run-clause-place c =
    let part = slice c.args.from c.args.stop c.args.text.now.characters in
    let all : are_printable part ≡ true = c.is_printable_run.ensures c.if-is_printable_run.true in
    let long : c.args.stop - c.args.from ≡ length part = sym (length-slice c.args.from c.args.stop c.args.text.now.characters c.requires.within) in
    printable_place c.args.tab c.args.pos (c.args.stop - c.args.from) _ _ part all long c.printable_place.ensures.column c.printable_place.ensures.width

pub returns-then-is_printable_run-clause-told : goal.returns-then-is_printable_run-clause-told
returns-then-is_printable_run-clause-told c = λ more.
    let part = slice c.args.from c.args.stop c.args.text.now.characters in
    let all : are_printable part ≡ true = c.is_printable_run.ensures c.if-is_printable_run.true in
    let long : c.args.stop - c.args.from ≡ length part = sym (length-slice c.args.from c.args.stop c.args.text.now.characters c.requires.within) in
    printable_told c.args.pos (c.args.stop - c.args.from) part all long (c.printable_place.ensures.told more)
