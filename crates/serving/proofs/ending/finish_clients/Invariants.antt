use Rattle.std.proofs.Common.{length}
use Rattle.line_base.specs.Lines.{Line}
use Rattle.serving.specs.LeftOver.{WasClient}
use Rattle.serving.proofs.Finishing.{Finishes}
use Rattle.serving.proofs.ending.finish_clients.Given as goal

abbrev pub invariant-clients : goal.invariant-clients
invariant-clients g l =
    let line_of = λ (p : g.row.L-P.Denot). let t : Line = g.L.P.Peer.line p in t in
    Finishes (WasClient line_of g.J.Naming.settings g.J.Handling.rule g.J.Handling.tries)
    (length l.fn.clients.waiting) (length l.rest.waiting)
    (g.L.Listener.state l.fn.listener) (g.L.Listener.state l.listener)

abbrev pub decreases-clients : goal.decreases-clients
decreases-clients g l = length l.rest.waiting
