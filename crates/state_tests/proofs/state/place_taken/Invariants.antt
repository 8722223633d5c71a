use Rattle.state_tests.proofs.state.place_taken.Given as goal

abbrev pub ghosts-taken : goal.ghosts-taken
ghosts-taken a = record { name = a.blank.name; parts = a.blank.parts }
