use Rattle.std.proofs.Common.{◌-◌, length, drop, ap, arith}
use Rattle.line_tree.specs.Text.{replaced}
use Rattle.line_tree.specs.Breaks.{count_breaks}
use Rattle.line_tree.proofs.Counts.{count_drop, count_le, count_take}
use Rattle.line_tree.proofs.PartEdits.{length-replaced}
use Rattle.line_tree.proofs.Replacing.{replaced_count}
use Rattle.line_tree.proofs.leaf.Leaf.replaced.Goals as goal

pub overflow_sub-breaks : goal.overflow_sub-breaks
overflow_sub-breaks c =
    let row = c.in-Some-Some.row.now in
    omega (
      arith,
      c.breaks_in-removed.ensures,
      c.breaks.ensures,
      ap count_breaks c.in-Some-Some.ensures,
      count_take (drop c.args.from row) (c.args.to - c.args.from),
      count_drop row c.args.from,
    )

pub overflow_add-breaks : goal.overflow_add-breaks
overflow_add-breaks c =
    let row = c.in-Some-Some.row.now in
    let lines = c.in-Some-Some.lines.now in
    omega (
      arith,
      replaced_count row lines c.args.from c.args.to c.requires.order,
      count_le (replaced c.args.from c.args.to lines row),
      length-replaced c.args.from c.args.to lines row c.requires.order (omega (arith, ap length c.in-Some-Some.ensures, c.requires.within)),
      ap length c.in-Some-Some.ensures,
      ap length c.in-Some-Some.ensures',
      c.requires.fits,
      c.breaks_in-removed.ensures,
      c.breaks.ensures,
      c.breaks-in-Some-Some.ensures,
      ap count_breaks c.in-Some-Some.ensures,
      ap count_breaks c.in-Some-Some.ensures',
    )

pub of_row-requires-clause-breaks : goal.of_row-requires-clause-breaks
of_row-requires-clause-breaks c =
    let row = c.in-Some-Some.row.now in
    let lines = c.in-Some-Some.lines.now in
    omega (
      arith,
      replaced_count row lines c.args.from c.args.to c.requires.order,
      count_take (drop c.args.from row) (c.args.to - c.args.from),
      count_drop row c.args.from,
      ap count_breaks c.in_ok-made-in-Some-Some.ensures,
      c.breaks_in-removed.ensures,
      c.breaks.ensures,
      c.breaks-in-Some-Some.ensures,
      ap count_breaks c.in-Some-Some.ensures,
      ap count_breaks c.in-Some-Some.ensures',
    )
