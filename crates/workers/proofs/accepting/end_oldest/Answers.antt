use Rattle.workers.proofs.Turning.{empties, emptied, ended_one}
use Rattle.workers.proofs.accepting.end_oldest.Goals as goal

pub returns-in-Some-clause-works : goal.returns-in-Some-clause-works
returns-in-Some-clause-works g c =
    let w = c.args.server.now in
    let l = g.L.Listener.state c.args.listener.now in
    let h = c.args.hand.now in
    let e = c.end_one.ensures.ends in
    let one =
    ended_one g.W.Serve.serves w w c.end_one.new.server l l
    (g.L.Listener.state c.end_one.new.listener) h h c.take_oldest.new.hand c.in-Some.stay e.0
    (empties g.W.Serve.serves w l h) c.in-Some.ensures.counts e.1 e.2 in
    (one.ts, one.works)

pub returns-in_default-clause-works : goal.returns-in_default-clause-works
returns-in_default-clause-works g c =
    let w = c.args.server.now in
    let l = g.L.Listener.state c.args.listener.now in
    let h = c.args.hand.now in
    emptied g.W.Serve.serves w w l l h h c.take_oldest.new.hand (empties g.W.Serve.serves w l h)
    c.in_default.ensures.counts
