use Rattle.screen_cases.proofs.drawings.screen_of.Given as goal

abbrev pub ghosts-drawn : goal.ghosts-drawn
ghosts-drawn a = record { name = a.blank.name; parts = a.blank.parts }
