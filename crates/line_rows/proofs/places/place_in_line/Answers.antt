use Rattle.std.proofs.Common.{◌+◌, ◌∙◌, arith}
use Rattle.line_rows.proofs.PlaceSteps.{part_place}
use Rattle.line_rows.proofs.places.place_in_line.Goals as goal

pub returns-then-is_told : goal.returns-then-is_told
returns-then-is_told c =
    c.in_ok-column.ensures.place
    ∙ part_place c.args.tab c.args.pos c.args.from (c.args.from + c.min.result) c.args.to c.args.text.now.characters (omega arith) (omega (arith, c.requires.order, c.min.ensures))
    (c.in_ok-column.ensures.told c.if-is_told.true)
