use Rattle.router.specs.Tickets.{told_in}
use Rattle.api_sessions.proofs.Staying.{waits_first}
use Rattle.api_sessions.proofs.idle.IdleCaller.came.Goals as goal

pub invariant_of-result : goal.invariant_of-result
invariant_of-result g c =
    waits_first g.P.Peer.line c.of-first.result.value c.args.peer c.args.which
    (told_in c.ticket.result) c.of-first.ensures
