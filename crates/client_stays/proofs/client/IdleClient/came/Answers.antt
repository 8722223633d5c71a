use Rattle.std.proofs.Common.{ap, sym, ◌∙◌}
use Rattle.line_base.specs.Lines.{Line}
use Rattle.router.specs.Tickets.{told_in}
use Rattle.client_stays.proofs.Chaining.{new_waits}
use Rattle.client_stays.proofs.client.IdleClient.came.Goals as goal

pub invariant_of-result : goal.invariant_of-result
invariant_of-result g c =
    let line_of = λ (p : g.row.P.Denot). let l : Line = g.P.Peer.line p in l in
    let made = c.connection_of.ensures in
    new_waits g.J.Naming.settings g.J.Handling.rule g.J.Handling.tries c.args.tries
    (line_of c.of-first.result.value) (line_of c.connection_of.result.peer)
    c.connection_of.result.client c.connection_of.result.served c.connection_of.result.budget
    (told_in c.ticket.result) (ap line_of (made.0 ∙ sym c.of-first.ensures)) made.2 made.3
    c.requires.tries
