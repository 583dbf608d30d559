use Rattle.decoration.proofs.Marks.{mark_again}
use Rattle.decoration.proofs.mark.Mark.new.Goals as goal

-- the numbers give the style and the ends back
pub returns : goal.returns
returns c =
    rw (c.number_of_color.ensures, c.number_of_color-2.ensures)
    (rw (c.flag.ensures, c.flag-2.ensures, c.flag-3.ensures, c.flag-4.ensures, c.flag-5.ensures)
    (mark_again c.args.style c.args.inclusive))
