use Rattle.std.proofs.Common.{◌∙◌}
use Rattle.transaction.proofs.Joins.{beside-is}
use Rattle.transaction.proofs.Meetings.{meeting-meets}
use Rattle.transaction.proofs.draft.Draft.beside.Goals as goal

pub beside-requires-clause-meet : goal.beside-requires-clause-meet
beside-requires-clause-meet g c =
    meeting-meets c.args.frame.now.max c.args.self.changes c.args.next.changes c.in_ok-both.both c.requires.meet c.in_ok-both.ensures.both

pub returns-clause-value : goal.returns-clause-value
returns-clause-value g c =
    c.in_ok-boxed.ensures ∙ beside-is c.args.frame.now.kinds.now (g.M.EffectMaps.map_value c.args.frame.now.maps.now) c.args.frame.now.max c.args.self c.args.next c.of.result c.in_ok-both.both
    c.extras-first.result c.extras-second.result c.in_ok-extras.extras c.extras-first.ensures c.extras-second.ensures c.in_ok-both.ensures.both c.in_ok-extras.ensures.value c.of.ensures
