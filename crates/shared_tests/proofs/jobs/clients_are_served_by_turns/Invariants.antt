use Rattle.shared_tests.proofs.jobs.clients_are_served_by_turns.Given as goal

abbrev pub ghosts-serve_told-A-Ledger : goal.ghosts-serve_told-A-Ledger
ghosts-serve_told-A-Ledger g a = record { name = a.left.name; parts = a.left.parts }

abbrev pub ghosts-serve_told-B-Ledger : goal.ghosts-serve_told-B-Ledger
ghosts-serve_told-B-Ledger g a = record { name = a.taken.name; parts = a.taken.parts }
