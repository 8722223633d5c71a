use Rattle.grammar_tests.proofs.outside.steps_take_no_memory.Given as goal

abbrev pub ghosts-tick_twice : goal.ghosts-tick_twice
ghosts-tick_twice g a = record { name = a.blank.name; parts = a.blank.parts }
