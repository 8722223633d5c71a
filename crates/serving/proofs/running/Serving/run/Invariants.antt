use Rattle.serving.proofs.running.Serving.run.Given as goal

-- a ledger for each count of either lot
abbrev pub ghosts-run_jobs-A-Ledger : goal.ghosts-run_jobs-A-Ledger
ghosts-run_jobs-A-Ledger g a = record
    { name = a.blanks.clients_left.name; parts = a.blanks.clients_left.parts }

abbrev pub ghosts-run_jobs-B-Ledger : goal.ghosts-run_jobs-B-Ledger
ghosts-run_jobs-B-Ledger g a = record
    { name = a.blanks.clients_taken.name; parts = a.blanks.clients_taken.parts }

abbrev pub ghosts-run_jobs-E-Ledger : goal.ghosts-run_jobs-E-Ledger
ghosts-run_jobs-E-Ledger g a = record
    { name = a.blanks.callers_left.name; parts = a.blanks.callers_left.parts }

abbrev pub ghosts-run_jobs-F-Ledger : goal.ghosts-run_jobs-F-Ledger
ghosts-run_jobs-F-Ledger g a = record
    { name = a.blanks.callers_taken.name; parts = a.blanks.callers_taken.parts }
