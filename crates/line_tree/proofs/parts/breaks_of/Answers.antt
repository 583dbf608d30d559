use Rattle.std.proofs.Common.{◌≡◌, ◌+◌, ◌^◌, take, ◌∙◌, ap, arith}
use Rattle.std.proofs.lemmas.List.{take_all}
use Rattle.line_tree.proofs.Joins.{breaks, breaks-more, breaks-part, breaks_le-lengths, height_at, count-joined, length-joined, tall_more}
use Rattle.line_tree.proofs.parts.breaks_of.Goals as goal

pub overflow_add-breaks-in-loop-part : goal.overflow_add-breaks-in-loop-part
overflow_add-breaks-in-loop-part c =
    omega (
      arith,
      breaks-more c.args.parts.now c.loop-part.part-index c.part-item.result (omega arith) c.part-item.is,
      breaks-part c.args.parts.now (c.loop-part.part-index + 1),
      breaks_le-lengths c.args.parts.now,
      length-joined c.args.parts.now c.requires.some,
    )

pub overflow_cast-result : goal.overflow_cast-result
overflow_cast-result c =
    omega (arith, breaks-part c.args.parts.now c.loop-part.part-index, breaks_le-lengths c.args.parts.now, length-joined c.args.parts.now c.requires.some)

pub returns-clause-value : goal.returns-clause-value
returns-clause-value c =
    let parts = c.args.parts.now in
    let all : take c.loop-part.part-index parts ≡ parts = take_all c.loop-part.part-index parts (omega arith) in
    omega (arith, ap breaks all, count-joined parts c.requires.some)

pub loop-part-preserved : goal.loop-part-preserved
loop-part-preserved c =
    let parts = c.args.parts.now in
    let e = breaks-more parts c.loop-part.part-index c.part-item.result (omega arith) c.part-item.is in
    let h : c.part-item.result.height ≡ c.args.height =
    ap (λ v. v.height) c.part-item.is ∙ height_at c.args.height parts c.loop-part.part-index c.part-item.result (omega arith) c.requires.same in
    record {
      value = omega (arith, e);
      tall = tall_more c.loop-part.part-index (2 ^ c.args.height) c.loop-part.breaks (c.from.result + 1) (omega arith)
          (omega (arith, ap (λ k. 2 ^ k) h));
    }
