use Rattle.std.proofs.Common.{ap, length}
use Rattle.line_base.specs.Lines.{Line}
use Rattle.serving.specs.LeftOver.{WasClient}
use Rattle.serving.proofs.Finishing.{all_are_finished, none_finished, one_finished}
use Rattle.serving.proofs.ending.finish_clients.Goals as goal

pub clients-init : goal.clients-init
clients-init g c =
    let line_of = λ (p : g.row.L-P.Denot). let t : Line = g.L.P.Peer.line p in t in
    none_finished (WasClient line_of g.J.Naming.settings g.J.Handling.rule g.J.Handling.tries) _ _

pub clients-preserved : goal.clients-preserved
clients-preserved g c =
    let line_of = λ (p : g.row.L-P.Denot). let t : Line = g.L.P.Peer.line p in t in
    one_finished (WasClient line_of g.J.Naming.settings g.J.Handling.rule g.J.Handling.tries) _ _ _
    _ _ _ _
    c.clients.invariant c.in-Some.ensures.count
    (c.in-Some.client, c.end.ensures.chain, c.end.ensures.line) c.finish.ensures.state

pub returns : goal.returns
returns g c =
    let line_of = λ (p : g.row.L-P.Denot). let t : Line = g.L.P.Peer.line p in t in
    all_are_finished (WasClient line_of g.J.Naming.settings g.J.Handling.rule g.J.Handling.tries) _
    _ _ _
    c.clients.invariant (ap length c.in_default.ensures.none.0)
