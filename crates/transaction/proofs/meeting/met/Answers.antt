use Rattle.std.proofs.Common.{sym, ap, ◌∙◌}
use Rattle.change_set.proofs.RunningTotals.{also-meets}
use Rattle.change_desc.specs.Sections.{spelled, old_size}
use Rattle.change_desc.proofs.Merges.{old_size-lengths}
use Rattle.transaction.proofs.meeting.met.Goals as goal

pub map-requires-clause-meet : goal.map-requires-clause-meet
map-requires-clause-meet c = ap old_size c.requires.mine ∙ (old_size-lengths spelled c.args.first.now ∙ sym c.requires.same)

pub compose-requires : goal.compose-requires
compose-requires c = also-meets c.args.first.now c.args.second.now c.args.mine.now c.requires.mine c.requires.same ∙ ap old_size (sym c.in_ok-moved.ensures.mapped)
