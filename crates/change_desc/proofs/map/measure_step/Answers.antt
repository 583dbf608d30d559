use Rattle.std.proofs.Common.{refl, sym, ◌∙◌}
use Rattle.change_desc.proofs.Measures.{measures_second, measures_first, measures_characters, some_left, second_fresh}
use Rattle.change_desc.proofs.map.measure_step.Goals as goal

pub returns-then-is_second_next : goal.returns-then-is_second_next
returns-then-is_second_next c =
    rw (c.opened.ensures, c.left_old.ensures, c.still_new.ensures)
    (measures_second c.args.a c.args.b (sym c.is_second_next.ensures ∙ c.if-is_second_next.true) c.requires.tails.0 c.requires.tails.1)

pub returns-then-is_fresh : goal.returns-then-is_fresh
returns-then-is_fresh c =
    rw (c.opened-then-is_fresh.ensures, c.left_old-then-is_fresh.ensures, c.still_new-then-is_fresh.ensures)
    (measures_first c.args.a c.args.b (sym c.is_second_next.ensures ∙ c.if-is_second_next.false) (sym c.is_fresh.ensures ∙ c.if-is_fresh.true) c.requires.tails.0 c.requires.tails.1)

pub returns : goal.returns
returns c =
    let first = sym c.is_fresh.ensures ∙ c.if-is_fresh.false in
    let second = second_fresh c.args.a c.args.b (sym c.is_second_next.ensures ∙ c.if-is_second_next.false) first in
    rw (c.beyond.ensures, c.beyond-2.ensures, c.min.ensures, c.still_new-2.ensures, c.still_new-3.ensures, c.min-both.ensures, c.left_old-2.ensures, c.left_old-3.ensures)
    (measures_characters c.args.a c.args.b _ first second (some_left c.args.a c.args.b first second c.requires.tails.0 c.requires.tails.1 c.requires.level) refl)
