use Rattle.std.proofs.Common.{ap, length}
use Rattle.line_base.specs.Lines.{Line}
use Rattle.serving.specs.LeftOver.{WasCaller}
use Rattle.serving.proofs.Finishing.{all_are_finished, none_finished, one_finished}
use Rattle.serving.proofs.ending.finish_callers.Goals as goal

pub callers-init : goal.callers-init
callers-init g c =
    let line_of = λ (p : g.row.L-P.Denot). let t : Line = g.L.P.Peer.line p in t in
    none_finished (WasCaller line_of g.J.Naming) _ _

pub callers-preserved : goal.callers-preserved
callers-preserved g c =
    let line_of = λ (p : g.row.L-P.Denot). let t : Line = g.L.P.Peer.line p in t in
    one_finished (WasCaller line_of g.J.Naming) _ _ _ _ _ _ _
    c.callers.invariant c.in-Some.ensures.count
    (c.in-Some.caller, c.end.ensures.chain, c.end.ensures.line) c.finish.ensures.state

pub returns : goal.returns
returns g c =
    let line_of = λ (p : g.row.L-P.Denot). let t : Line = g.L.P.Peer.line p in t in
    all_are_finished (WasCaller line_of g.J.Naming) _ _ _ _
    c.callers.invariant (ap length c.in_default.ensures.none.0)
