use Rattle.router.specs.Opening.{beginning_of, naming_of, ledger_of}
use Rattle.session_tests.proofs.played.play_by.Given as goal

-- the router that was just opened
abbrev pub ghosts-play_named-J-Naming : goal.ghosts-play_named-J-Naming
ghosts-play_named-J-Naming g a = naming_of (beginning_of a.opened)

abbrev pub ghosts-play_named-J-Ledger : goal.ghosts-play_named-J-Ledger
ghosts-play_named-J-Ledger g a = ledger_of (beginning_of a.opened)
