use Rattle.script.proofs.run.storm.Given as goal

abbrev pub ghosts-run_of_turns : goal.ghosts-run_of_turns
ghosts-run_of_turns a = record { name = a.blank.name; parts = a.blank.parts }
