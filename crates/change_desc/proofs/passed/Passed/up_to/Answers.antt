use Rattle.std.proofs.Common.{get_or, arith}
use Rattle.change_desc.specs.declared.section.Section.TheVariants.{Keep}
use Rattle.change_desc.proofs.Walks.{begins, passed-more}
use Rattle.change_desc.proofs.passed.Passed.up_to.Goals as goal

pub walk-preserved : goal.walk-preserved
walk-preserved c =
    rw c.beyond-passed.ensures
    (passed-more _ c.walk.passed _ (get_or c.args.sections.now c.walk.passed.count (Keep 0)) c.walk-test.true (begins _ _ _ c.walk-test.true) (omega arith) c.walk.invariant)
