use Rattle.slot_cases.proofs.running.first.Given as goal

abbrev pub ghosts-first_counted : goal.ghosts-first_counted
ghosts-first_counted g a = record { name = a.blank.name; parts = a.blank.parts }
