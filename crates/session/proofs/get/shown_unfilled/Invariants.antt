use Rattle.session.proofs.get.shown_unfilled.Given as goal

abbrev pub ghosts-unfilled : goal.ghosts-unfilled
ghosts-unfilled g a = record { name = a.blank.name; parts = a.blank.parts }
