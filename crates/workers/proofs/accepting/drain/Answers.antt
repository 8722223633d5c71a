use Rattle.std.proofs.Common.{refl, ◌∙◌}
use Rattle.workers.proofs.Turning.{empties, ended_after, ended_one}
use Rattle.workers.proofs.accepting.drain.Goals as goal

pub draining-init : goal.draining-init
draining-init g c = record {
  emptying = empties g.W.Serve.serves c.args.server.now (g.L.Listener.state c.args.listener.now)
      c.args.hand.now;
  kept = refl;
}

pub draining-preserved-in-Ends : goal.draining-preserved-in-Ends
draining-preserved-in-Ends g c =
    let state = g.L.Listener.state in
    record {
      emptying = ended_one g.W.Serve.serves c.args.server.now c.draining.server
          c.go_on.new.self (state c.args.listener.now) (state c.draining.listener)
          (state c.finish.new.self) c.args.hand.now c.draining.hand c.take_oldest.new.hand
          c.in-Some-take_oldest.stay c.in-Ends.peer c.draining.invariant.emptying
          c.in-Some-take_oldest.ensures.counts c.in-Ends.ensures c.finish.ensures.state;
      kept = c.finish.ensures.kept ∙ c.draining.invariant.kept;
    }

pub draining-preserved : goal.draining-preserved
draining-preserved g c =
    let state = g.L.Listener.state in
    let e = c.end_one.ensures.ends in
    record {
      emptying = ended_after g.W.Serve.serves c.args.server.now c.draining.server
          c.go_on.new.self c.end_one.new.server (state c.args.listener.now)
          (state c.draining.listener) (state c.end_one.new.listener) c.args.hand.now
          c.draining.hand c.take_oldest.new.hand c.in-Some-take_oldest.stay c.in-Waits.stay e.0
          c.draining.invariant.emptying c.in-Some-take_oldest.ensures.counts c.in-Waits.ensures
          e.1 e.2;
      kept = c.end_one.ensures.kept ∙ c.draining.invariant.kept;
    }
