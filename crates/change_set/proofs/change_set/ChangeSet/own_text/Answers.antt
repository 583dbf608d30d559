use Rattle.std.proofs.Common.{sym, subst}
use Rattle.change_desc.specs.Sections.{spelled, IsSet}
use Rattle.change_set.proofs.Composed.{set-fits}
use Rattle.change_set.proofs.change_set.ChangeSet.own_text.Goals as goal

pub written-requires : goal.written-requires
written-requires c =
    set-fits c.as_slice-sections.result.now (subst (IsSet spelled) (sym c.as_slice-sections.ensures) c.self.invariant)
