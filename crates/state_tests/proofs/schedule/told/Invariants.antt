use Rattle.state_tests.proofs.schedule.told.Given as goal

abbrev pub ghosts-run_steps : goal.ghosts-run_steps
ghosts-run_steps a = record { name = a.blank.name; parts = a.blank.parts }
