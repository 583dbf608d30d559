use Rattle.change_desc.proofs.Turns.{is_set-turned}
use Rattle.change_desc.proofs.desc.Desc.inverted.Goals as goal

pub invariant_of-result : goal.invariant_of-result
invariant_of-result c = rw (c.in_ok-sections.ensures) (is_set-turned _ c.self.invariant)
