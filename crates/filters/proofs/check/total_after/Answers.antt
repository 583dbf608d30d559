use Rattle.std.proofs.Common.{◌≡◌, None}
use Rattle.change_desc.specs.Sections.{spelled}
use Rattle.change_desc.specs.Of.{then_also}
use Rattle.transaction.specs.Refusals.{too_long}
use Rattle.filters.specs.PrivateSteps.{AreShort}
use Rattle.filters.proofs.Totals.{IfOk-both, beside-meets, beside-short}
use Rattle.filters.proofs.check.total_after.Goals as goal

pub returns-else-sequential-clause-short : goal.returns-else-sequential-clause-short
returns-else-sequential-clause-short c =
    let before = c.args.before.now in
    let own = c.args.own.now in
    IfOk-both c.beside.result (λ both. both ≡ then_also spelled before own) (λ _. too_long c.args.max (then_also spelled before own) ≡ None) (λ both. AreShort c.args.len c.args.max both)
    c.beside.ensures.both c.beside.ensures.accepted
    (λ both e h. beside-short c.args.len c.args.max before own both c.requires.before c.args.sequential
    (beside-meets c.args.len c.args.max before own both c.requires.before c.args.sequential c.if-sequential.false c.requires.starts) e h)
