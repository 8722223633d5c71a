-- What a ticket tells.
use Rattle.std.specs.Prelude.{List}
use Rattle.std.specs.declared.sync.ledger.Ledger.{Ghosts as Named}
use Rattle.snap_cell.specs.Writers.{told_by}
use Rattle.router_log.specs.Operation.{Operation}
use Rattle.router.specs.declared.naming.Naming.{Ghosts}
use Rattle.router.specs.declared.ticket.Ticket.{Ticket}
use Rattle.router.specs.Update.{operations_of}

-- the operations that the pass which gave it out had seen
abbrev pub told_in : {J : Type 0} {g : Ghosts J} {l : Named J} → Ticket J g l → List Operation
told_in t = operations_of (told_by t.note)
