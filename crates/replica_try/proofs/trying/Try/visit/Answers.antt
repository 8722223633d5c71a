use Rattle.std.proofs.Common.{ap, sym, ◌∙◌}
use Rattle.line_base.proofs.Links.{still_open}
use Rattle.line_base.specs.declared.dialer.DialEvent.TheVariants.{Hung, Kept}
use Rattle.line_base.specs.Dials.{has_room}
use Rattle.replica_try.proofs.Speaking.{hangs, hung_by, kept_by, speaks}
use Rattle.replica_try.proofs.BothHold.{and_left}
use Rattle.replica_try.proofs.trying.Try.visit.Goals as goal

pub keep-requires-clause-open_ : goal.keep-requires-clause-open_
keep-requires-clause-open_ g c = still_open c.converse-tried.ensures.stays.0 c.requires

pub keep-requires-clause-keeps : goal.keep-requires-clause-keeps
keep-requires-clause-keeps g c =
    sym c.keeps.ensures ∙ and_left c.keeps.result _ (sym c.is_kept.ensures ∙ c.if-is_kept.true)

pub returns-then-is_kept-clause-speaks : goal.returns-then-is_kept-clause-speaks
returns-then-is_kept-clause-speaks g c =
    let how = c.converse-tried.result in
    let before = g.D.Dialer.upstream c.args.way.now.dialer in
    let mid = g.D.Dialer.upstream c.converse-tried.new.way.dialer in
    let stays = c.converse-tried.ensures.stays.0 in
    speaks c.args.self.now.head.now c.args.way.now.out.items c.args.self.now.framing
    c.args.self.now.last (g.P.Peer.line c.args.peer.now)
    (g.P.Peer.line c.converse-tried.new.peer) c.args.rest.now c.converse-tried.new.rest before
    (g.D.Dialer.upstream c.keep.new.self) how mid stays c.converse-tried.ensures.spoke Kept
    (kept_by (has_room before.pool) (has_room mid.pool) c.keeps.result how c.is_kept.result
    c.is_kept.ensures
    c.keeps.ensures (ap has_room stays.pool) c.if-is_kept.true)
    c.keep.ensures.log c.keep.ensures.kept c.keep.ensures.closes c.keep.ensures.pool.0

pub returns-clause-speaks : goal.returns-clause-speaks
returns-clause-speaks g c =
    let how = c.converse-tried.result in
    let before = g.D.Dialer.upstream c.args.way.now.dialer in
    let mid = g.D.Dialer.upstream c.converse-tried.new.way.dialer in
    let now = g.D.Dialer.upstream c.hang.new.self in
    let stays = c.converse-tried.ensures.stays.0 in
    speaks c.args.self.now.head.now c.args.way.now.out.items c.args.self.now.framing
    c.args.self.now.last (g.P.Peer.line c.args.peer.now)
    (g.P.Peer.line c.converse-tried.new.peer) c.args.rest.now c.converse-tried.new.rest before now
    how mid stays c.converse-tried.ensures.spoke Hung
    (hung_by (has_room before.pool) (has_room mid.pool) c.keeps.result how c.is_kept.result
    c.is_kept.ensures
    c.keeps.ensures (ap has_room stays.pool) c.if-is_kept.false)
    (hangs mid.open_to mid.log now.log (still_open stays c.requires) c.hang.ensures.log)
    c.hang.ensures.kept c.hang.ensures.closes c.hang.ensures.others.1
