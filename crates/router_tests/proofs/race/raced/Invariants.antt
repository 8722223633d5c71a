use Rattle.router_tests.proofs.race.raced.Given as goal

-- a count of steps of its own
abbrev pub ghosts-play : goal.ghosts-play
ghosts-play g a = record { name = a.blank.name; parts = a.blank.parts }
