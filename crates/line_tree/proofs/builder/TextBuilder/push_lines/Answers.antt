use Rattle.std.proofs.Common.{◌≡◌, ◌++◌, length, length-append, take, drop, ap, arith}
use Rattle.std.proofs.lemmas.List.{length-take, length-drop}
use Rattle.line_tree.specs.Breaks.{count_breaks}
use Rattle.line_tree.specs.Building.{characters_of}
use Rattle.line_tree.proofs.Counts.{count-append, count_take, count_drop}
use Rattle.line_tree.proofs.Replacing.{part_count}
use Rattle.line_tree.proofs.builder.TextBuilder.push_lines.Goals as goal

pub overflow_sub-breaks : goal.overflow_sub-breaks
overflow_sub-breaks c = omega (arith, c.breaks_before.ensures, c.breaks_before-2.ensures, part_count c.args.leaf.now c.args.from c.args.count)

pub make_leaf-requires-clause-few : goal.make_leaf-requires-clause-few
make_leaf-requires-clause-few c =
    rw c.in_ok-slice.ensures (omega (arith, count_take (drop c.args.from c.args.leaf.now) c.args.count, count_drop c.args.leaf.now c.args.from, c.requires.few))

pub invariant_of-self : goal.invariant_of-self
invariant_of-self c =
    let part = take c.args.count (drop c.args.from c.args.leaf.now) in
    let done = characters_of c.self.inside.done in
    let last = c.self.inside.last in
    let new = c.push_leaf_slice.new.self in
    let added : new ≡ last ++ part = c.in-Ok.ensures in (
      omega (
        arith,
        c.self.invariant.0,
        length-append done last,
        length-append done new,
        ap length added,
        length-append last part,
        length-take c.args.count (drop c.args.from c.args.leaf.now),
        length-drop c.args.from c.args.leaf.now,
        c.requires.within,
      ),
      omega (arith, c.requires.fits, c.self.invariant.0, ap length c.self.view_is),
      omega (
        arith,
        ap count_breaks added,
        count-append last part,
        part_count c.args.leaf.now c.args.from c.args.count,
        c.breaks.ensures,
        c.breaks_before.ensures,
        c.breaks_before-2.ensures,
        c.if-breaks-gt63.false,
      ),
    )
