use Rattle.std.proofs.Common.{refl, ◌∙◌}
use Rattle.workers.proofs.Turning.{empties, emptied, ended_one}
use Rattle.workers.proofs.accepting.end_older.Goals as goal

pub ending-init : goal.ending-init
ending-init g c = record {
  emptying = empties g.W.Serve.serves c.args.server.now (g.L.Listener.state c.args.listener.now)
      c.args.hand.now;
  kept = refl;
}

pub ending-preserved : goal.ending-preserved
ending-preserved g c =
    let e = c.end_one.ensures.ends in
    record {
      emptying = ended_one g.W.Serve.serves c.args.server.now c.ending.server c.end_one.new.server
          (g.L.Listener.state c.args.listener.now) (g.L.Listener.state c.ending.listener)
          (g.L.Listener.state c.end_one.new.listener) c.args.hand.now c.ending.hand
          c.take_older.new.hand c.in-Some-take_older.stay e.0 c.ending.invariant.emptying
          c.in-Some-take_older.ensures.counts e.1 e.2;
      kept = c.end_one.ensures.kept ∙ c.ending.invariant.kept;
    }

pub returns-in-None-take_older-clause-works : goal.returns-in-None-take_older-clause-works
returns-in-None-take_older-clause-works g c =
    emptied g.W.Serve.serves c.args.server.now c.ending.server
    (g.L.Listener.state c.args.listener.now) (g.L.Listener.state c.ending.listener)
    c.args.hand.now c.ending.hand c.take_older.new.hand c.ending.invariant.emptying
    c.in-None-take_older.ensures.counts
