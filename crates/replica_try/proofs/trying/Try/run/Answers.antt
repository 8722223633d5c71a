use Rattle.std.proofs.Common.{List, ℕ, subst, inl}
use Rattle.replica_try.specs.Trying.{GoesOnKept, TriesAnew}
use Rattle.replica_try.proofs.Closed.{tries_closed, tries_pool}
use Rattle.replica_try.proofs.Speaking.{tries_anew, tries_kept}
use Rattle.replica_try.proofs.trying.Try.run.Goals as goal

pub run_kept-requires-clause-open_ : goal.run_kept-requires-clause-open_
run_kept-requires-clause-open_ g c = (c.resume.ensures.taken c.if-resume.true).open_

pub returns-then-resume-clause-tries : goal.returns-then-resume-clause-tries
returns-then-resume-clause-tries g c =
    let to = c.args.self.now in
    let taken = c.resume.ensures.taken c.if-resume.true in
    let before = g.D.Dialer.upstream c.args.way.now.dialer in
    let first = g.D.Dialer.upstream c.resume.new.way.dialer in
    let now = g.D.Dialer.upstream c.run_kept.new.way.dialer in
    tries_kept to.head.now c.args.way.now.out.items to.framing to.last to.addr
    (g.P.Peer.line c.args.peer.now) (g.P.Peer.line c.run_kept.new.peer) c.args.rest.now
    c.run_kept.new.rest before first now c.run_kept.result taken.log taken.faults taken.pool
    taken.any taken.again
    (subst (λ (out : List ℕ). GoesOnKept to.head.now out to.framing to.last to.addr
    (g.P.Peer.line c.args.peer.now) (g.P.Peer.line c.run_kept.new.peer) c.args.rest.now
    c.run_kept.new.rest first now c.run_kept.result) c.resume.ensures.out c.run_kept.ensures)

pub returns-clause-tries : goal.returns-clause-tries
returns-clause-tries g c =
    let to = c.args.self.now in
    let none = c.resume.ensures.none c.if-resume.false in
    let before = g.D.Dialer.upstream c.args.way.now.dialer in
    let first = g.D.Dialer.upstream c.resume.new.way.dialer in
    let now = g.D.Dialer.upstream c.run_anew.new.way.dialer in
    inl (
    tries_anew to.head.now c.args.way.now.out.items to.framing to.last to.addr
    (g.P.Peer.line c.args.peer.now) (g.P.Peer.line c.run_anew.new.peer) c.args.rest.now
    c.run_anew.new.rest before first now c.run_anew.result none.log none.faults none.pool
    (subst (λ (out : List ℕ). TriesAnew to.head.now out to.framing to.last to.addr
    (g.P.Peer.line c.args.peer.now) (g.P.Peer.line c.run_anew.new.peer) c.args.rest.now
    c.run_anew.new.rest first now c.run_anew.result) c.resume.ensures.out c.run_anew.ensures)
    )

pub returns-then-resume-clause-closed : goal.returns-then-resume-clause-closed
returns-then-resume-clause-closed g c =
    let to = c.args.self.now in
    tries_closed to.head.now c.args.way.now.out.items to.framing to.last to.addr
    (g.P.Peer.line c.run_kept.new.peer) c.run_kept.new.rest
    (g.D.Dialer.upstream c.run_kept.new.way.dialer) c.run_kept.result
    (g.P.Peer.line c.args.peer.now) c.args.rest.now
    (g.D.Dialer.upstream c.args.way.now.dialer) (returns-then-resume-clause-tries g c)

pub returns-then-resume-clause-pool : goal.returns-then-resume-clause-pool
returns-then-resume-clause-pool g c =
    let to = c.args.self.now in
    tries_pool to.head.now c.args.way.now.out.items to.framing to.last to.addr
    (g.P.Peer.line c.run_kept.new.peer) c.run_kept.new.rest
    (g.D.Dialer.upstream c.run_kept.new.way.dialer) c.run_kept.result
    (g.P.Peer.line c.args.peer.now) c.args.rest.now
    (g.D.Dialer.upstream c.args.way.now.dialer) (returns-then-resume-clause-tries g c)

pub returns-clause-closed : goal.returns-clause-closed
returns-clause-closed g c =
    let to = c.args.self.now in
    tries_closed to.head.now c.args.way.now.out.items to.framing to.last to.addr
    (g.P.Peer.line c.run_anew.new.peer) c.run_anew.new.rest
    (g.D.Dialer.upstream c.run_anew.new.way.dialer) c.run_anew.result
    (g.P.Peer.line c.args.peer.now) c.args.rest.now
    (g.D.Dialer.upstream c.args.way.now.dialer) (returns-clause-tries g c)

pub returns-clause-pool : goal.returns-clause-pool
returns-clause-pool g c =
    let to = c.args.self.now in
    tries_pool to.head.now c.args.way.now.out.items to.framing to.last to.addr
    (g.P.Peer.line c.run_anew.new.peer) c.run_anew.new.rest
    (g.D.Dialer.upstream c.run_anew.new.way.dialer) c.run_anew.result
    (g.P.Peer.line c.args.peer.now) c.args.rest.now
    (g.D.Dialer.upstream c.args.way.now.dialer) (returns-clause-tries g c)
