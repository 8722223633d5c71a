use Rattle.router_tests.proofs.race.work.Given as goal

-- a count of steps of its own
abbrev pub ghosts-watch : goal.ghosts-watch
ghosts-watch g a = record { name = a.blank.name; parts = a.blank.parts }
