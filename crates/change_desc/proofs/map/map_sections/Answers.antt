use Rattle.std.proofs.Common.{◌+◌, ◌≤◌, drop, [], ◌∷◌, ◌++◌, arith, ◌∙◌}
use Rattle.change_desc.specs.Sections.{counted, new_size}
use Rattle.change_desc.specs.Columns.{along_old}
use Rattle.change_desc.specs.Map.{mapped, map_over}
use Rattle.change_desc.specs.Tails.{row_old}
use Rattle.change_desc.specs.Weaving.{new_done}
use Rattle.change_desc.specs.MapSteps.{Level, next_len}
use Rattle.change_desc.specs.declared.section.Section.TheVariants.{Replace}
use Rattle.change_desc.proofs.Weaves.{flushed-is_normal, flushed-old, flushed-new}
use Rattle.change_desc.proofs.MapLengths.{level_of, next_fits, done_fits}
use Rattle.change_desc.proofs.map.map_sections.Goals as goal

pub map_step-requires-clause-new_fits : goal.map_step-requires-clause-new_fits
map_step-requires-clause-new_fits c =
    let r : Level c.walk.a c.walk.b (along_old counted (drop c.walk.i c.args.first.now)) (along_old counted (drop c.walk.j c.args.second.now)) =
    level_of c.args.first.now c.args.second.now c.walk.a c.walk.b c.walk.i c.walk.j c.walk.invariant.first_spent c.walk.invariant.second_spent c.walk.invariant.level in
    let n : new_done c.walk.weave + next_len c.args.before c.walk.a c.walk.b ≤ new_size counted (map_over counted c.args.second.now c.args.first.now c.args.before) =
    next_fits c.args.before c.walk.weave c.walk.a c.walk.b (along_old counted (drop c.walk.i c.args.first.now)) (along_old counted (drop c.walk.j c.args.second.now))
    (map_over counted c.args.second.now c.args.first.now c.args.before) r c.walk.invariant.goes in
    omega (arith, n, c.requires.fits)

pub walk-preserved : goal.walk-preserved
walk-preserved c =
    let s = c.in_ok-left_a.ensures in
    let r : Level c.walk.a c.walk.b (along_old counted (drop c.walk.i c.args.first.now)) (along_old counted (drop c.walk.j c.args.second.now)) =
    level_of c.args.first.now c.args.second.now c.walk.a c.walk.b c.walk.i c.walk.j c.walk.invariant.first_spent c.walk.invariant.second_spent c.walk.invariant.level in
    record {
      goes = rw (c.load.ensures.row_old, c.load-in-walk.ensures.row_old)
          (s.goes (along_old counted (drop c.walk.i c.args.first.now)) (along_old counted (drop c.walk.j c.args.second.now)) r ∙ c.walk.invariant.goes);
      is_normal = s.is_normal;
      first_part = c.load.ensures.is_tail;
      second_part = c.load-in-walk.ensures.is_tail;
      first_within = c.load.ensures.within;
      second_within = c.load-in-walk.ensures.within;
      first_spent = c.load.ensures.spent;
      second_spent = c.load-in-walk.ensures.spent;
      old = omega (arith, s.old, c.load.ensures.still_new, c.walk.invariant.old);
      level = omega (arith, s.level, c.load.ensures.old, c.load-in-walk.ensures.old, c.walk.invariant.level);
    }

pub flush-requires-clause-new_fits : goal.flush-requires-clause-new_fits
flush-requires-clause-new_fits c =
    let n : new_done c.walk.weave ≤ new_size counted (map_over counted c.args.second.now c.args.first.now c.args.before) =
    done_fits c.walk.weave (mapped counted c.args.before (row_old c.walk.a (along_old counted (drop c.walk.i c.args.first.now))) (row_old c.walk.b (along_old counted (drop c.walk.j c.args.second.now))))
    (map_over counted c.args.second.now c.args.first.now c.args.before) c.walk.invariant.goes in
    omega (arith, n, c.requires.fits)

pub returns-clause-is_set : goal.returns-clause-is_set
returns-clause-is_set c =
    let n : new_done c.walk.weave ≤ new_size counted (map_over counted c.args.second.now c.args.first.now c.args.before) =
    done_fits c.walk.weave (mapped counted c.args.before (row_old c.walk.a (along_old counted (drop c.walk.i c.args.first.now))) (row_old c.walk.b (along_old counted (drop c.walk.j c.args.second.now))))
    (map_over counted c.args.second.now c.args.first.now c.args.before) c.walk.invariant.goes in
    record {
      is_normal = flushed-is_normal (c.walk.weave.sections.items ++ Replace c.walk.weave.count c.walk.weave.len ∷ []) c.flush.new.self.sections.items c.in_ok-flush.ensures.0;
      old_fits = omega (arith, flushed-old c.walk.weave.sections.items c.flush.new.self.sections.items c.walk.weave.count c.walk.weave.len c.in_ok-flush.ensures.0, c.walk.invariant.old, c.requires.first.new_fits);
      new_fits = omega (arith, flushed-new c.walk.weave.sections.items c.flush.new.self.sections.items c.walk.weave.count c.walk.weave.len c.in_ok-flush.ensures.0, n, c.requires.fits);
    }
