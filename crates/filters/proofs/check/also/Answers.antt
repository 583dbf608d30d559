use Rattle.std.proofs.Common.{◌≡◌, sym, ap, ◌∙◌}
use Rattle.std.proofs.lemmas.Result.{IfOk-weaker}
use Rattle.change_desc.specs.Sections.{spelled, old_size}
use Rattle.change_desc.specs.Compose.{compose}
use Rattle.change_desc.specs.Of.{then_also}
use Rattle.change_set.proofs.RunningTotals.{also-is, also-meets}
use Rattle.filters.proofs.Totals.{mine-old}
use Rattle.filters.proofs.check.also.Goals as goal

pub map-requires-clause-meet : goal.map-requires-clause-meet
map-requires-clause-meet c = mine-old c.args.first.now c.args.second.now c.args.mine.now c.requires.mine c.requires.same

pub compose-requires : goal.compose-requires
compose-requires c = also-meets c.args.first.now c.args.second.now c.args.mine.now c.requires.mine c.requires.same ∙ ap old_size (sym c.in_ok-moved.ensures.mapped)

pub returns : goal.returns
returns c =
    IfOk-weaker c.compose.result (λ both. both ≡ compose spelled c.args.first.now c.in_ok-moved.moved) (λ both. both ≡ then_also spelled c.args.first.now c.args.second.now)
    (λ both e. e ∙ (ap (compose spelled c.args.first.now) c.in_ok-moved.ensures.mapped ∙ also-is c.args.first.now c.args.second.now c.args.mine.now c.requires.mine)) c.compose.ensures.both
