use Rattle.session.proofs.frames.state_frame.Given as goal

abbrev pub ghosts-drawn : goal.ghosts-drawn
ghosts-drawn g a = record { name = a.blank.name; parts = a.blank.parts }
