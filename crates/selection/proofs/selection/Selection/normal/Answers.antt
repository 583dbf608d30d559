use Rattle.selection.proofs.Normals.{normal-is_selection, normal-inside}
use Rattle.selection.proofs.selection.Selection.normal.Goals as goal

pub invariant_of-result : goal.invariant_of-result
invariant_of-result c =
    rw (
      c.in_ok-ranges_of.ensures,
      c.main_of.ensures,
      c.deref-2.ensures.value,
      c.deref-3.ensures.value,
      c.in_ok-joined.ensures,
      c.deref.ensures.value,
      c.in_ok-sort_stably.ensures.ok,
      c.in_ok-marks.ensures,
    ) (normal-is_selection c.args.ranges.now c.args.main c.requires)

pub returns-clause-inside : goal.returns-clause-inside
returns-clause-inside c = λ len h.
    rw (
      c.in_ok-ranges_of.ensures,
      c.deref-2.ensures.value,
      c.in_ok-joined.ensures,
      c.deref.ensures.value,
      c.in_ok-sort_stably.ensures.ok,
      c.in_ok-marks.ensures,
    ) (normal-inside len c.args.ranges.now c.args.main h)
