use Rattle.waiting_tests.proofs.lots.who_waits_is_taken_once.Given as goal

abbrev pub ghosts-play-A-Ledger : goal.ghosts-play-A-Ledger
ghosts-play-A-Ledger g a = record { name = a.left.name; parts = a.left.parts }

abbrev pub ghosts-play-B-Ledger : goal.ghosts-play-B-Ledger
ghosts-play-B-Ledger g a = record { name = a.taken.name; parts = a.taken.parts }
