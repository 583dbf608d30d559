use Rattle.std.proofs.Common.{◌≡◌, ◌-◌, length, ap, ◌∙◌, arith}
use Rattle.change_set.specs.Protection.{given_len, takes}
use Rattle.change_set.proofs.FilterLens.{len_begin}
use Rattle.change_set.proofs.filter_len.deletion_len.Goals as goal

pub returns-clause-sum : goal.returns-clause-sum
returns-clause-sum c =
    let half = c.args.by.half in
    let rs = c.args.by.ranges.now in
    let len = c.args.by.len in
    let at = c.args.at in
    let to = c.run_from-run.result.to in
    let b = c.takes-is_taken.result in
    let t = c.args.text.now in
    let first : c.from.result ≡ given_len b (to - at) (length t) = c.from.ensures ∙ (c.run_len-first.ensures ∙ ap (given_len b (to - at)) c.len.ensures) in
    λ s.
    let e = len_begin half rs len at to c.args.gone t s b c.run_from-run.ensures.run c.requires.some (c.takes-is_taken.ensures ∙ ap (takes half) c.run_from-run.ensures.is_protected) in
    omega (arith, e, first, c.runs_len-reached.ensures.sum s)
