use Rattle.std.proofs.Common.{◌≡◌, ◌+◌, ◌∷◌, ℕ, drop, ap, subst, ◌∙◌, arith}
use Rattle.std.proofs.lemmas.Result.{err_from_is_err_and}
use Rattle.change_desc.specs.Sections.{spelled}
use Rattle.change_desc.specs.Of.{then_also}
use Rattle.change_set.specs.Ascents.{total_of, Grows}
use Rattle.change_set.specs.Changes.{as_set}
use Rattle.change_set.specs.Totals.{IsTooLong}
use Rattle.change_set.proofs.Ascending.{total-old, total-size}
use Rattle.change_set.proofs.Refused.{walk-next, walk-long}
use Rattle.change_set.proofs.Walks.{next_item}
use Rattle.change_set.proofs.ascent.ascending.Goals as goal

pub returns-in_err-take-clause-refused : goal.returns-in_err-take-clause-refused
returns-in_err-take-clause-refused c =
    let s = c.args.changes.now in
    let i = c.loop-count.count in
    let x = c.index-changes-count.result in
    let a = c.loop-count.ascent in
    let error = c.in_err-take.field-0.0 in
    let e : drop i s ≡ x ∷ drop (i + 1) s = next_item s i x c.loop-count-test.true c.index-changes-count.is in
    let p = err_from_is_err_and c.from_residual.result c.from_residual.ensures.1 in
    rw (p.1, p.2)
    (λ n. walk-long c.args.len c.args.max i (total_of a) s x error c.loop-count.invariant.total e
    (subst (λ (k : ℕ). IsTooLong c.args.max (then_also spelled (total_of a) (as_set k x)) error) c.loop-count.invariant.same_len (c.in_err-take.ensures.refused n)))

pub loop-count-preserved : goal.loop-count-preserved
loop-count-preserved c =
    let s = c.args.changes.now in
    let i = c.loop-count.count in
    let x = c.index-changes-count.result in
    let a = c.loop-count.ascent in
    let b = c.take.new.self in
    let e : drop i s ≡ x ∷ drop (i + 1) s = next_item s i x c.loop-count-test.true c.index-changes-count.is in
    let g : Grows c.args.max a b (as_set a.len x) = c.in_ok-take.ensures.taken c.if-not-branch.false in
    let same : b.len ≡ c.args.len = g.same_len ∙ c.loop-count.invariant.same_len in
    record {
      is_ascent = g.is_ascent;
      same_len = same;
      total = walk-next c.args.len c.args.max i (total_of a) (total_of b) s x c.loop-count.invariant.total e
          (g.total ∙ ap (λ (k : ℕ). then_also spelled (total_of a) (as_set k x)) c.loop-count.invariant.same_len)
          (total-old b g.is_ascent ∙ same) (omega (arith, total-size b g.is_ascent, g.short));
    }
