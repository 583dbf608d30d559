use Rattle.std.proofs.Common.{drop, arith}
use Rattle.change_desc.specs.Sections.{counted}
use Rattle.change_desc.specs.Columns.{along_old}
use Rattle.change_desc.specs.MapSteps.{Level}
use Rattle.change_desc.proofs.MapLengths.{level_of}
use Rattle.change_desc.proofs.Measures.{merged_len-sets}
use Rattle.change_desc.proofs.map.mapped_len.Goals as goal

pub walk-preserved : goal.walk-preserved
walk-preserved c =
    let s = c.measure_step-left_a.ensures in
    let r : Level c.walk.a c.walk.b (along_old counted (drop c.walk.i c.args.first.now)) (along_old counted (drop c.walk.j c.args.second.now)) =
    level_of c.args.first.now c.args.second.now c.walk.a c.walk.b c.walk.i c.walk.j c.walk.invariant.first_spent c.walk.invariant.second_spent c.walk.invariant.level in
    record {
      goes = rw (c.load.ensures.row_old, c.load-in-walk.ensures.row_old)
          (omega (arith, s.goes (along_old counted (drop c.walk.i c.args.first.now)) (along_old counted (drop c.walk.j c.args.second.now)) r, c.walk.invariant.goes));
      first_part = c.load.ensures.is_tail;
      second_part = c.load-in-walk.ensures.is_tail;
      first_within = c.load.ensures.within;
      second_within = c.load-in-walk.ensures.within;
      first_spent = c.load.ensures.spent;
      second_spent = c.load-in-walk.ensures.spent;
      level = omega (arith, s.level, c.load.ensures.old, c.load-in-walk.ensures.old, c.walk.invariant.level);
    }

pub overflow_add-len : goal.overflow_add-len
overflow_add-len c =
    let r : Level c.walk.a c.walk.b (along_old counted (drop c.walk.i c.args.first.now)) (along_old counted (drop c.walk.j c.args.second.now)) =
    level_of c.args.first.now c.args.second.now c.walk.a c.walk.b c.walk.i c.walk.j c.walk.invariant.first_spent c.walk.invariant.second_spent c.walk.invariant.level in
    omega (
      arith,
      c.measure_step-left_a.ensures.goes (along_old counted (drop c.walk.i c.args.first.now)) (along_old counted (drop c.walk.j c.args.second.now)) r,
      c.walk.invariant.goes,
      merged_len-sets c.args.first.now c.args.second.now,
      c.requires.first.new_fits,
      c.requires.second.new_fits,
      c.from.ensures,
    )
