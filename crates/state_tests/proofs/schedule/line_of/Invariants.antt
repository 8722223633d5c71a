use Rattle.state_tests.proofs.schedule.line_of.Given as goal

abbrev pub ghosts-woven : goal.ghosts-woven
ghosts-woven a = record { name = a.blank.name; parts = a.blank.parts }
