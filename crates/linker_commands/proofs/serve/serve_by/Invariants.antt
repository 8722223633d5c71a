use Rattle.router.specs.Opening.{beginning_of, ledger_of, naming_of}
use Rattle.linker_commands.proofs.serve.serve_by.Given as goal

-- the router that was just opened
abbrev pub ghosts-serve_opened-J-Naming : goal.ghosts-serve_opened-J-Naming
ghosts-serve_opened-J-Naming g a = naming_of (beginning_of a.opened)

abbrev pub ghosts-serve_opened-J-Ledger : goal.ghosts-serve_opened-J-Ledger
ghosts-serve_opened-J-Ledger g a = ledger_of (beginning_of a.opened)

-- it handles requests as the site says
abbrev pub ghosts-serve_opened-J-Handling : goal.ghosts-serve_opened-J-Handling
ghosts-serve_opened-J-Handling g a =
    record { rule = a.logged.now.site.policy.rule; tries = a.logged.now.site.policy.retries }
