use Rattle.std.proofs.Common.{◌≡◌, ℕ, List, IfOk, subst}
use Rattle.change_desc.specs.declared.section.Section.{Section}
use Rattle.change_desc.specs.Sections.{inverted}
use Rattle.change_set.proofs.change_set.ChangeSet.back_lengths.Goals as goal

pub returns : goal.returns
returns c = subst (λ (d : List (Section ℕ)). IfOk c.inverted.result (λ back. back ≡ inverted d)) c.in_ok-lengths.ensures c.inverted.ensures
