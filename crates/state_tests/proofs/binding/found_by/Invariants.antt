use Rattle.state_tests.proofs.binding.found_by.Given as goal

abbrev pub ghosts-delegate : goal.ghosts-delegate
ghosts-delegate a = record { name = a.blank.name; parts = a.blank.parts }
