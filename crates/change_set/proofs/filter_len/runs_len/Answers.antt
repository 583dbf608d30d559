use Rattle.std.proofs.Common.{◌≡◌, ◌-◌, ap, ◌∙◌, arith}
use Rattle.change_set.specs.Protection.{given_len, takes}
use Rattle.change_set.proofs.Runs.{ended-later}
use Rattle.change_set.proofs.FilterLens.{given-few, len_on}
use Rattle.change_set.proofs.filter_len.runs_len.Goals as goal

pub runs-preserved : goal.runs-preserved
runs-preserved c =
    let half = c.args.by.half in
    let rs = c.args.by.ranges.now in
    let len = c.args.by.len in
    let pos = c.runs.pos in
    let to = c.run_from-run.result.to in
    let end = c.args.end in
    let b = c.takes-is_taken.result in
    let r = c.run_from-run.ensures.run in
    let added : c.from-sum.result ≡ given_len b (to - pos) 0 = c.from-sum.ensures ∙ c.run_len.ensures in
    record {
      from = omega (arith, c.runs.invariant.from, r.some);
      order = r.within;
      ended = ended-later rs c.ended-count.result pos to (omega (arith, r.some)) c.ended-count.ensures.ended;
      few = omega (arith, added, given-few b (to - pos) 0, c.runs.invariant.few, c.runs.invariant.from, r.some);
      sum = λ s.
          let e = len_on half rs len pos to end s b r (c.takes-is_taken.ensures ∙ ap (takes half) c.run_from-run.ensures.is_protected) in
          omega (arith, e, added, c.runs.invariant.sum s);
    }
