use Rattle.router.specs.Opening.{beginning_of, naming_of, ledger_of}
use Rattle.router_tests.proofs.race.run.Given as goal

-- the router that was just opened
abbrev pub ghosts-raced-J-Naming : goal.ghosts-raced-J-Naming
ghosts-raced-J-Naming g a = naming_of (beginning_of a.opened)

abbrev pub ghosts-raced-J-Ledger : goal.ghosts-raced-J-Ledger
ghosts-raced-J-Ledger g a = ledger_of (beginning_of a.opened)
