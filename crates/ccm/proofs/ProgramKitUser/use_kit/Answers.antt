use Rattle.ccm.proofs.ProgramKitUser.use_kit.Goals as goal

pub returns : goal.returns
returns g c = rw c.as_slice.ensures.value at c.run.ensures
