use Rattle.std.proofs.Common.{◌++◌, ◌+◌, ◌≤◌, length, map, take, ap, subst, sym, ◌∙◌, arith, append_assoc}
use Rattle.std.proofs.lemmas.List.{length-map, take_all}
use Rattle.range_set.specs.PrivateChunks.{Content, IsChunk, content, flat, lengthen, shift}
use Rattle.range_set.proofs.Chunks.{AreChunks-push, flat-push}
use Rattle.range_set.proofs.Groups.{lengthened_at, moved_chunk, open_more}
use Rattle.range_set.proofs.opening.share_each.Goals as goal

pub overflow_add-base : goal.overflow_add-base
overflow_add-base g c =
    let at = lengthened_at c.args.grown c.args.chunks.now c.loop-placed.placed-index c.placed-item.result c.loop-placed-test.true c.placed-item.is in
    let here = moved_chunk g.T.RangeValue.rules c.args.base (map (lengthen c.args.grown) c.args.chunks.now) c.loop-placed.placed-index (lengthen c.args.grown c.placed-item.result) at.0 at.1 c.requires.chunks in
    let fits = here.0.fits in
    omega (arith, fits)

pub lengthened-requires : goal.lengthened-requires
lengthened-requires g c =
    let at = lengthened_at c.args.grown c.args.chunks.now c.loop-placed.placed-index c.placed-item.result c.loop-placed-test.true c.placed-item.is in
    let here = moved_chunk g.T.RangeValue.rules c.args.base (map (lengthen c.args.grown) c.args.chunks.now) c.loop-placed.placed-index (lengthen c.args.grown c.placed-item.result) at.0 at.1 c.requires.chunks in
    let fits = here.0.fits in
    omega (arith, fits)

pub loop-placed-preserved : goal.loop-placed-preserved
loop-placed-preserved g c =
    let rules = g.T.RangeValue.rules in
    let base = c.args.base in
    let ps = map (lengthen c.args.grown) c.args.chunks.now in
    let i = c.loop-placed.placed-index in
    let p = lengthen c.args.grown c.placed-item.result in
    let at = lengthened_at c.args.grown c.args.chunks.now i c.placed-item.result c.loop-placed-test.true c.placed-item.is in
    let made = c.loop-placed.made.items in
    let old = flat c.args.made.now.items in
    let here = moved_chunk rules base ps i p at.0 at.1 c.requires.chunks in
    let one = c.in_ok-lengthened.field-0 in
    let place = c.in_ok-lengthened.ensures.place in
    let value = c.in_ok-lengthened.ensures.content in
    record {
      chunks = rw c.in_ok-push.ensures.items (AreChunks-push rules made one c.loop-placed.invariant.chunks
          (subst (λ n. IsChunk rules n (content one)) (sym place) (subst (IsChunk rules (base + p.start)) (sym value) here.0))
          (subst (λ (x : Content g.row.T.Denot). 1 ≤ length x.ranges) (sym value) here.1));
      ranges = ap flat c.in_ok-push.ensures.items
          ∙ (flat-push made one
          ∙ (ap (λ n. flat made ++ map (shift n) (content one).ranges) place
          ∙ (ap (λ (x : Content g.row.T.Denot). flat made ++ map (shift (base + p.start)) x.ranges) value
          ∙ (ap (λ rs. rs ++ map (shift (base + p.start)) (content p).ranges) c.loop-placed.invariant.ranges
          ∙ (append_assoc old (map (shift base) (flat (take i ps))) (map (shift (base + p.start)) (content p).ranges)
          ∙ ap (λ rs. old ++ rs) (sym (open_more rules base ps i p at.0 at.1)))))));
    }

pub returns-clause-ranges : goal.returns-clause-ranges
returns-clause-ranges g c =
    c.loop-placed.invariant.ranges
    ∙ ap (λ ps. flat c.args.made.now.items ++ map (shift c.args.base) (flat ps)) (take_all c.loop-placed.placed-index (map (lengthen c.args.grown) c.args.chunks.now) (let n = length-map c.args.chunks.now (lengthen c.args.grown) in let l = c.loop-placed-test.false in omega (arith, n, l)))
