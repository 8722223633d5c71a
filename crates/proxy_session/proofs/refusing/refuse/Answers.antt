use Rattle.std.proofs.Common.{refl, Ok, Err, Some}
use Rattle.proxy_session.proofs.Writing.{refused_by}
use Rattle.proxy_session.proofs.refusing.refuse.Goals as goal

pub returns-in-Ok : goal.returns-in-Ok
returns-in-Ok g c =
    refused_by c.args.err c.args.head.now c.args.last (g.P.Peer.line c.args.peer.now)
    (g.P.Peer.line c.write_own.new.peer) c.own_closes-closes.result c.is_closing.result
    c.has_reply_body.result
    c.own_closes-closes.ensures c.is_closing.ensures c.has_reply_body.ensures (Ok tt)
    c.in-Ok.ensures c.end_of.result c.end_of.ensures

pub returns-in-Err : goal.returns-in-Err
returns-in-Err g c =
    refused_by c.args.err c.args.head.now c.args.last (g.P.Peer.line c.args.peer.now)
    (g.P.Peer.line c.write_own.new.peer) c.own_closes-closes.result c.is_closing.result
    c.has_reply_body.result
    c.own_closes-closes.ensures c.is_closing.ensures c.has_reply_body.ensures (Err c.in-Err.ended)
    c.in-Err.ensures (Some c.in-Err.ended) refl
