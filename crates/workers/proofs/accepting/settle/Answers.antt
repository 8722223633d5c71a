use Rattle.std.proofs.Common.{[], ◌∷◌, sym, subst}
use Rattle.workers.specs.Turns.{Settles, from_stay, given_back, left, turn}
use Rattle.workers.proofs.Turning.{settles_back, settles_displaced, settles_ended, settles_waits}
use Rattle.workers.proofs.accepting.settle.Goals as goal

pub returns-in-Ends-clause-settles : goal.returns-in-Ends-clause-settles
returns-in-Ends-clause-settles g c =
    let l = g.L.Listener.state c.args.listener.now in
    let w = c.args.server.now in
    let h = c.args.hand.now in
    rw c.in-Ends.is (
      [],
      subst
          (λ n. Settles g.W.Serve.serves (given_back c.in-Ends.peer) [] w w l n h h)
          (sym c.finish.ensures.state) (settles_ended g.W.Serve.serves c.in-Ends.peer w l h),
    )

pub returns-in-Waits-left-clause-settles : goal.returns-in-Waits-left-clause-settles
returns-in-Waits-left-clause-settles g c =
    rw c.in-Waits.is (
      [],
      settles_waits g.W.Serve.serves c.in-Waits.stay c.args.server.now
          (g.L.Listener.state c.args.listener.now) c.args.hand.now c.leave-left.new.hand
          c.in-Waits-left.ensures.counts,
    )

pub returns-in-Displaced-clause-settles : goal.returns-in-Displaced-clause-settles
returns-in-Displaced-clause-settles g c =
    let l = g.L.Listener.state c.args.listener.now in
    let w = c.args.server.now in
    let v = c.end_one.new.server in
    let h = c.args.hand.now in
    let k = c.leave-left.new.hand in
    let b = c.in-Displaced.oldest in
    let e = c.end_one.ensures.ends in
    rw c.in-Waits.is (
      turn (from_stay b) (given_back e.0) ∷ [],
      subst
          (λ n. Settles g.W.Serve.serves (left c.in-Waits.stay)
          (turn (from_stay b) (given_back e.0) ∷ []) w v l n h k)
          (sym e.2)
          (settles_displaced g.W.Serve.serves c.in-Waits.stay b e.0 w v l h k
          c.in-Displaced.ensures.counts e.1),
    )

pub returns-in-Back-clause-settles : goal.returns-in-Back-clause-settles
returns-in-Back-clause-settles g c =
    let l = g.L.Listener.state c.args.listener.now in
    let w = c.args.server.now in
    let v = c.end_one-in-Back.new.server in
    let h = c.args.hand.now in
    let k = c.leave-left.new.hand in
    let b = c.in-Back.stay in
    let e = c.end_one-in-Back.ensures.ends in
    rw c.in-Waits.is (
      turn (from_stay b) (given_back e.0) ∷ [],
      subst
          (λ n. Settles g.W.Serve.serves (left c.in-Waits.stay)
          (turn (from_stay b) (given_back e.0) ∷ []) w v l n h k)
          (sym e.2)
          (settles_back g.W.Serve.serves c.in-Waits.stay b e.0 w v l h k
          c.in-Back.ensures.counts e.1),
    )
