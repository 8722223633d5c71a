use Rattle.std.proofs.Common.{◌≡◌}
use Rattle.workers.proofs.Turning.{Emptying}
use Rattle.workers.proofs.accepting.drain.Given as goal

abbrev pub invariant-draining : goal.invariant-draining
invariant-draining g l = record {
  emptying :
      Emptying g.W.Serve.serves l.fn.server l.server (g.L.Listener.state l.fn.listener)
      (g.L.Listener.state l.listener) l.fn.hand l.hand;
  kept : g.L.Listener.faults l.listener ≡ g.L.Listener.faults l.fn.listener;
}
