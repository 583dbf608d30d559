use Rattle.std.proofs.Common.{drop, [], ◌∷◌, ◌++◌, arith, ◌∙◌}
use Rattle.change_desc.specs.Sections.{counted}
use Rattle.change_desc.specs.Columns.{along_new, along_old}
use Rattle.change_desc.specs.Weaving.{Ready}
use Rattle.change_desc.specs.declared.section.Section.TheVariants.{Replace}
use Rattle.change_desc.proofs.Loads.{ready}
use Rattle.change_desc.proofs.Weaves.{flushed-is_normal, flushed-old, flushed-new}
use Rattle.change_desc.proofs.compose.compose_sections.Goals as goal

pub walk-preserved : goal.walk-preserved
walk-preserved c =
    let s = c.in_ok-left_a.ensures in
    let r : Ready c.walk.a c.walk.b (along_new counted (drop c.walk.i c.args.first.now)) (along_old counted (drop c.walk.j c.args.second.now)) =
    ready c.args.first.now c.args.second.now c.walk.a c.walk.b c.walk.i c.walk.j c.walk.invariant.first_spent c.walk.invariant.level in
    record {
      goes = rw (c.load.ensures.row_new, c.load-in-walk.ensures.row_old)
          (s.goes (along_new counted (drop c.walk.i c.args.first.now)) (along_old counted (drop c.walk.j c.args.second.now)) r ∙ c.walk.invariant.goes);
      is_normal = s.is_normal;
      first_part = c.load.ensures.is_tail;
      second_part = c.load-in-walk.ensures.is_tail;
      first_within = c.load.ensures.within;
      second_within = c.load-in-walk.ensures.within;
      first_spent = c.load.ensures.spent;
      second_spent = c.load-in-walk.ensures.spent;
      old = omega (arith, s.old, c.load.ensures.still_old, c.walk.invariant.old);
      new = omega (arith, s.new, c.load-in-walk.ensures.still_new, c.walk.invariant.new);
      level = omega (arith, s.level, c.load.ensures.new, c.load-in-walk.ensures.old, c.walk.invariant.level);
    }

pub returns-clause-is_set : goal.returns-clause-is_set
returns-clause-is_set c = record {
  is_normal = flushed-is_normal (c.walk.weave.sections.items ++ Replace c.walk.weave.count c.walk.weave.len ∷ []) c.flush.new.self.sections.items c.in_ok-flush.ensures.0;
  old_fits = omega (arith, flushed-old c.walk.weave.sections.items c.flush.new.self.sections.items c.walk.weave.count c.walk.weave.len c.in_ok-flush.ensures.0, c.walk.invariant.old, c.requires.first.old_fits);
  new_fits = omega (arith, flushed-new c.walk.weave.sections.items c.flush.new.self.sections.items c.walk.weave.count c.walk.weave.len c.in_ok-flush.ensures.0, c.walk.invariant.new, c.requires.second.new_fits);
}
