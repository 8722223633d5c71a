use Rattle.std.proofs.Common.{length}
use Rattle.line_base.specs.Lines.{Line}
use Rattle.serving.specs.LeftOver.{WasCaller}
use Rattle.serving.proofs.Finishing.{Finishes}
use Rattle.serving.proofs.ending.finish_callers.Given as goal

abbrev pub invariant-callers : goal.invariant-callers
invariant-callers g l =
    let line_of = λ (p : g.row.L-P.Denot). let t : Line = g.L.P.Peer.line p in t in
    Finishes (WasCaller line_of g.J.Naming)
    (length l.fn.callers.waiting) (length l.rest.waiting)
    (g.L.Listener.state l.fn.listener) (g.L.Listener.state l.listener)

abbrev pub decreases-callers : goal.decreases-callers
decreases-callers g l = length l.rest.waiting
