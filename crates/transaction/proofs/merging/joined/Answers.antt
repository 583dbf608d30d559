use Rattle.std.specs.Box.{box_value}
use Rattle.transaction.proofs.Steps.{follows-beside, follows-sequential}
use Rattle.transaction.proofs.merging.joined.Goals as goal

pub returns-in_ok-followed-clause-draft : goal.returns-in_ok-followed-clause-draft
returns-in_ok-followed-clause-draft g c =
    rw (c.if-sequential.true)
    (follows-sequential c.args.frame.now.len c.args.frame.now.max c.args.frame.now.kinds.now (g.M.EffectMaps.map_value c.args.frame.now.maps.now) c.args.draft.value c.args.next.value
    c.in_ok-followed.field-0.value c.requires.before.is_draft (rw c.if-sequential.true at c.requires.starts) c.requires.short
    (rw (c.into_inner-first.ensures, c.into_inner-second.ensures) at c.in_ok-followed.ensures.value) (rw c.into_inner-first.ensures at c.in_ok-followed.ensures.is_draft))

pub returns-else-sequential-clause-draft : goal.returns-else-sequential-clause-draft
returns-else-sequential-clause-draft g c =
    rw (c.if-sequential.false)
    (follows-beside box_value c.args.frame.now.len c.args.frame.now.max c.args.frame.now.kinds.now (g.M.EffectMaps.map_value c.args.frame.now.maps.now) c.args.draft.value c.args.next.value
    c.beside.result c.requires.before.is_draft (rw (c.into_inner-first.ensures, c.into_inner-second.ensures) at c.beside.ensures.value)
    (rw c.into_inner-first.ensures at c.beside.ensures.is_draft) (rw (c.into_inner-first.ensures, c.into_inner-second.ensures) at c.beside.ensures.accepted))
