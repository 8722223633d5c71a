use Rattle.std.proofs.Common.{true, false, List, ℕ, subst, ◌∙◌, inl, inr}
use Rattle.replica_try.specs.Trying.{TriesAnew}
use Rattle.replica_try.proofs.Speaking.{lost_by}
use Rattle.replica_try.proofs.trying.Try.run_kept.Goals as goal

pub returns-then-is_lost : goal.returns-then-is_lost
returns-then-is_lost g c =
    let to = c.args.self.now in
    let mid = g.D.Dialer.upstream c.visit-tried.new.way.dialer in
    let now = g.D.Dialer.upstream c.run_anew.new.way.dialer in
    let out =
    c.take_copy.ensures.taken ∙ (c.visit-tried.ensures.copy ∙ c.requires.copied) in
    inr (
      g.P.Peer.line c.visit-tried.new.peer,
      c.visit-tried.new.rest,
      mid,
      c.visit-tried.result,
      c.visit-tried.ensures.speaks,
      lost_by c.visit-tried.result c.is_late.result mid.late c.is_lost.result true
          c.is_lost.ensures c.is_late.ensures c.if-is_lost.true,
      subst (λ d. TriesAnew to.head.now c.args.way.now.out.items to.framing to.last to.addr
          (g.P.Peer.line c.visit-tried.new.peer) (g.P.Peer.line c.run_anew.new.peer)
          c.visit-tried.new.rest c.run_anew.new.rest (g.D.Dialer.upstream d) now c.run_anew.result)
          c.take_copy.ensures.same.0
          (subst (λ (o : List ℕ). TriesAnew to.head.now o to.framing to.last to.addr
          (g.P.Peer.line c.visit-tried.new.peer) (g.P.Peer.line c.run_anew.new.peer)
          c.visit-tried.new.rest c.run_anew.new.rest
          (g.D.Dialer.upstream c.take_copy.new.self.dialer) now c.run_anew.result) out
          c.run_anew.ensures),
    )

pub returns : goal.returns
returns g c =
    inl (
      c.visit-tried.ensures.speaks,
      lost_by c.visit-tried.result c.is_late.result
          (g.D.Dialer.upstream c.visit-tried.new.way.dialer).late c.is_lost.result false
          c.is_lost.ensures c.is_late.ensures c.if-is_lost.false,
    )
