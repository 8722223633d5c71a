use Rattle.router.specs.Opening.{beginning_of, ledger_of, naming_of}
use Rattle.api_tests.proofs.connections.run.Given as goal

-- the router that was just opened
abbrev pub ghosts-staged-J-Naming : goal.ghosts-staged-J-Naming
ghosts-staged-J-Naming g a = naming_of (beginning_of a.opened)

abbrev pub ghosts-staged-J-Ledger : goal.ghosts-staged-J-Ledger
ghosts-staged-J-Ledger g a = ledger_of (beginning_of a.opened)
