use Rattle.std.proofs.Common.{◌<◌, ◌≤◌}
use Rattle.workers.proofs.Turning.{Working}
use Rattle.workers.proofs.accepting.serve_all.Given as goal

abbrev pub invariant-serving : goal.invariant-serving
invariant-serving g l = record {
  working :
      Working g.W.Serve.serves l.fn.server l.server (g.L.Listener.state l.fn.listener)
      (g.L.Listener.state l.listener) l.fn.hand l.hand;
  failed : l.failed ≤ (g.L.Listener.state l.listener).run;
  few : l.failed < 100;
  later : g.L.Listener.faults l.fn.listener ≤ g.L.Listener.faults l.listener;
}
