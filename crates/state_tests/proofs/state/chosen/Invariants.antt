use Rattle.state_tests.proofs.state.chosen.Given as goal

abbrev pub ghosts-choose : goal.ghosts-choose
ghosts-choose a = record { name = a.blank.name; parts = a.blank.parts }
