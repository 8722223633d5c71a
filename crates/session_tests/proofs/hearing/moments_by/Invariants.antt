use Rattle.router.specs.Opening.{beginning_of, naming_of, ledger_of}
use Rattle.session_tests.proofs.hearing.moments_by.Given as goal

-- the router that was just opened
abbrev pub ghosts-serve_named-J-Naming : goal.ghosts-serve_named-J-Naming
ghosts-serve_named-J-Naming g a = naming_of (beginning_of a.opened)

abbrev pub ghosts-serve_named-J-Ledger : goal.ghosts-serve_named-J-Ledger
ghosts-serve_named-J-Ledger g a = ledger_of (beginning_of a.opened)
