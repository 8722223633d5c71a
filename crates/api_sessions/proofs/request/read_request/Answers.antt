use Rattle.std.proofs.Common.{[], ap, length, subst, sym, ◌∙◌, append-nil, Err}
use Rattle.std.specs.Io.KnownBytes.{Consumes, Keeps}
use Rattle.std.proofs.KnownBytes.{Consumes-nil, Keeps-refl}
use Rattle.line_base.specs.Lines.{Line}
use Rattle.api_sessions.specs.declared.request.WholeRequest.{WholeRequest}
use Rattle.api_sessions.proofs.Requesting.{bad_test, body_causes, body_left, head_causes, head_left}
use Rattle.api_sessions.proofs.Requesting.{no_body, no_head, test_causes, test_left, whole_causes}
use Rattle.api_sessions.proofs.Requesting.{whole_request}
use Rattle.api_sessions.proofs.request.read_request.Goals as goal

pub returns-in-Ended-clause-bytes : goal.returns-in-Ended-clause-bytes
returns-in-Ended-clause-bytes g c =
    no_head (g.P.Peer.line c.args.peer.now).left (g.P.Peer.line c.read_next_head.new.peer).left
    c.args.rest.now c.read_next_head.new.rest c.in-Ended.end c.of_head.result c.of_head.ensures
    c.in-Ended.ensures.head

pub returns-in-Err-clause-bytes : goal.returns-in-Err-clause-bytes
returns-in-Err-clause-bytes g c =
    bad_test (g.P.Peer.line c.args.peer.now).left (g.P.Peer.line c.read_next_head.new.peer).left
    c.args.rest.now c.read_next_head.new.rest c.in-Head.head c.in-Err.none c.in-Head.ensures.head
    c.in-Err.ensures

pub returns-in-Ok-read_body-clause-bytes : goal.returns-in-Ok-read_body-clause-bytes
returns-in-Ok-read_body-clause-bytes g c =
    whole_request (g.P.Peer.line c.args.peer.now).left
    (g.P.Peer.line c.read_next_head.new.peer).left (g.P.Peer.line c.read_body.new.peer).left
    c.args.rest.now c.read_next_head.new.rest c.read_body.new.rest
    c.in-Head.head c.in-Ok.framing c.in-Head.ensures.head c.in-Ok.ensures c.in-Ok-read_body.body
    c.in-Ok-read_body.ensures.body

pub returns-in-Err-read_body-clause-bytes : goal.returns-in-Err-read_body-clause-bytes
returns-in-Err-read_body-clause-bytes g c =
    let never = c.in-Err-read_body.ensures.never in
    no_body (g.P.Peer.line c.args.peer.now).left (g.P.Peer.line c.read_next_head.new.peer).left
    (g.P.Peer.line c.read_body.new.peer).left c.args.rest.now c.read_next_head.new.rest
    c.read_body.new.rest
    c.in-Head.head c.in-Ok.framing c.in-Head.ensures.head c.in-Ok.ensures c.in-Err-read_body.end
    c.has_body.result c.of_body.result c.has_body.ensures c.of_body.ensures
    c.in-Err-read_body.ensures.body (λ e. never.0 (ap Err e)) (λ e. never.1 (ap Err e))
    (λ e. never.2 (ap Err e))

pub returns-in-Ended-clause-causes : goal.returns-in-Ended-clause-causes
returns-in-Ended-clause-causes g c =
    let old = g.P.Peer.line c.args.peer.now in
    let read = g.P.Peer.line c.read_next_head.new.peer in
    head_causes WholeRequest old.ends read.ends old.read_faults read.read_faults c.in-Ended.end
    c.of_head.result c.of_head.ensures c.in-Ended.ensures.causes

pub returns-in-Err-clause-causes : goal.returns-in-Err-clause-causes
returns-in-Err-clause-causes g c =
    let old = g.P.Peer.line c.args.peer.now in
    let read = g.P.Peer.line c.read_next_head.new.peer in
    test_causes WholeRequest old.ends read.ends old.read_faults read.read_faults c.in-Head.head
    c.in-Err.none c.in-Err.ensures c.in-Head.ensures.causes

pub returns-in-Ok-read_body-clause-causes : goal.returns-in-Ok-read_body-clause-causes
returns-in-Ok-read_body-clause-causes g c =
    let first = c.in-Head.ensures.causes in
    let old = g.P.Peer.line c.args.peer.now in
    let read = g.P.Peer.line c.read_next_head.new.peer in
    let new = g.P.Peer.line c.read_body.new.peer in
    whole_causes old.ends read.ends new.ends old.read_faults read.read_faults new.read_faults
    c.in-Ok.framing first.ends first.faults c.in-Head.head (length c.in-Ok-read_body.body.items)
    c.in-Ok.ensures c.in-Ok-read_body.ensures.ends c.in-Ok-read_body.ensures.reads

pub returns-in-Err-read_body-clause-causes : goal.returns-in-Err-read_body-clause-causes
returns-in-Err-read_body-clause-causes g c =
    let first = c.in-Head.ensures.causes in
    let old = g.P.Peer.line c.args.peer.now in
    let read = g.P.Peer.line c.read_next_head.new.peer in
    let new = g.P.Peer.line c.read_body.new.peer in
    body_causes old.ends read.ends new.ends old.read_faults read.read_faults new.read_faults
    c.in-Ok.framing first.ends first.faults WholeRequest c.in-Err-read_body.end c.has_body.result
    c.in-Err-read_body.ensures.ends c.in-Err-read_body.ensures.reads c.of_body.result
    c.of_body.ensures

pub returns-in-Ended-clause-none_left : goal.returns-in-Ended-clause-none_left
returns-in-Ended-clause-none_left g c =
    head_left WholeRequest (g.P.Peer.line c.read_next_head.new.peer).left c.in-Ended.end
    c.of_head.result c.of_head.ensures c.in-Ended.ensures.head.end

pub returns-in-Err-clause-none_left : goal.returns-in-Err-clause-none_left
returns-in-Err-clause-none_left g c =
    test_left WholeRequest (g.P.Peer.line c.read_next_head.new.peer).left c.in-Head.head
    c.in-Err.none c.in-Err.ensures

pub returns-in-Ok-read_body-clause-none_left : goal.returns-in-Ok-read_body-clause-none_left
returns-in-Ok-read_body-clause-none_left g c = λ at. absurd (cc)

pub returns-in-Err-read_body-clause-none_left : goal.returns-in-Err-read_body-clause-none_left
returns-in-Err-read_body-clause-none_left g c =
    body_left WholeRequest (g.P.Peer.line c.read_body.new.peer).left c.in-Ok.framing
    c.in-Err-read_body.end c.has_body.result c.of_body.result c.of_body.ensures
    c.in-Err-read_body.ensures.none_left

pub returns-in-Closing-clause-none_left : goal.returns-in-Closing-clause-none_left
returns-in-Closing-clause-none_left g c = λ at. absurd (cc)

pub returns-in-Quiet-clause-none_left : goal.returns-in-Quiet-clause-none_left
returns-in-Quiet-clause-none_left g c = λ at. absurd (cc)

pub returns-in-Closing-clause-bytes : goal.returns-in-Closing-clause-bytes
returns-in-Closing-clause-bytes g c =
    let old = g.P.Peer.line c.args.peer.now in (
      [],
      subst (λ (l : Line). Consumes old.left l.left []) (sym c.in-Closing.ensures.closing)
          (Consumes-nil old.left),
      append-nil c.args.rest.now ∙ c.in-Closing.ensures.none,
    )

pub returns-in-Closing-clause-given : goal.returns-in-Closing-clause-given
returns-in-Closing-clause-given g c =
    let old = g.P.Peer.line c.args.peer.now in
    subst (λ (l : Line). Keeps old.given l.given) (sym c.in-Closing.ensures.closing)
    (Keeps-refl old.given)

pub returns-in-Closing-clause-writes : goal.returns-in-Closing-clause-writes
returns-in-Closing-clause-writes g c =
    ap (λ (l : Line). l.write_faults) c.in-Closing.ensures.closing

pub returns-in-Closing-clause-closings : goal.returns-in-Closing-clause-closings
returns-in-Closing-clause-closings g c =
    ap (λ (l : Line). l.closings) c.in-Closing.ensures.closing

pub returns-in-Closing-clause-quiets : goal.returns-in-Closing-clause-quiets
returns-in-Closing-clause-quiets g c = ap (λ (l : Line). l.quiets) c.in-Closing.ensures.closing

pub returns-in-Closing-clause-causes : goal.returns-in-Closing-clause-causes
returns-in-Closing-clause-causes g c = record {
  ends = ap (λ (l : Line). l.ends) c.in-Closing.ensures.closing;
  faults = ap (λ (l : Line). l.read_faults) c.in-Closing.ensures.closing;
}

pub returns-in-Quiet-clause-bytes : goal.returns-in-Quiet-clause-bytes
returns-in-Quiet-clause-bytes g c =
    let old = g.P.Peer.line c.args.peer.now in (
      [],
      subst (λ (l : Line). Consumes old.left l.left []) (sym c.in-Quiet.ensures.quiet)
          (Consumes-nil old.left),
      append-nil c.args.rest.now ∙ c.in-Quiet.ensures.none,
    )

pub returns-in-Quiet-clause-given : goal.returns-in-Quiet-clause-given
returns-in-Quiet-clause-given g c =
    let old = g.P.Peer.line c.args.peer.now in
    subst (λ (l : Line). Keeps old.given l.given) (sym c.in-Quiet.ensures.quiet)
    (Keeps-refl old.given)

pub returns-in-Quiet-clause-writes : goal.returns-in-Quiet-clause-writes
returns-in-Quiet-clause-writes g c = ap (λ (l : Line). l.write_faults) c.in-Quiet.ensures.quiet

pub returns-in-Quiet-clause-closings : goal.returns-in-Quiet-clause-closings
returns-in-Quiet-clause-closings g c = ap (λ (l : Line). l.closings) c.in-Quiet.ensures.quiet

pub returns-in-Quiet-clause-quiets : goal.returns-in-Quiet-clause-quiets
returns-in-Quiet-clause-quiets g c = ap (λ (l : Line). l.quiets) c.in-Quiet.ensures.quiet

pub returns-in-Quiet-clause-causes : goal.returns-in-Quiet-clause-causes
returns-in-Quiet-clause-causes g c = record {
  ends = ap (λ (l : Line). l.ends) c.in-Quiet.ensures.quiet;
  faults = ap (λ (l : Line). l.read_faults) c.in-Quiet.ensures.quiet;
}
