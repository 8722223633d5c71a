use Rattle.std.proofs.Common.{List, ℕ, Option, [], ◌++◌, false, refl, sym, subst, ap, ◌∙◌, inr}
use Rattle.std.proofs.Common.{Some}
use Rattle.std.specs.Io.KnownBytes.{Consumes, Keeps}
use Rattle.std.proofs.KnownBytes.{Consumes-kept}
use Rattle.http_wire.specs.declared.ended.Ended.{Ended}
use Rattle.api_sessions.specs.declared.request.WholeRequest.{WholeRequest}
use Rattle.http_wire.specs.declared.paused.Paused.{Paused}
use Rattle.http_wire.specs.Paused.{quiets_behind}
use Rattle.api_sessions.specs.Reading.{LeavesNone, is_drained, raised_where}
use Rattle.api_sessions.specs.Serving.{HasCauses, Turns, ended_in}
use Rattle.api_sessions.specs.Stays.{sources_by}
use Rattle.api_sessions.proofs.Turning.{ended_causes, ended_left, ended_same, ends_told}
use Rattle.api_sessions.proofs.Turning.{given_behind}
use Rattle.api_sessions.proofs.Turning.{gives_none, is_taken, refused_causes, refused_left}
use Rattle.api_sessions.proofs.Turning.{replied_left}
use Rattle.api_sessions.proofs.Turning.{ends_waits, own_waits, request_quiets, wait_waits}
use Rattle.api_sessions.proofs.Turning.{own_told, quiet_turn, quiet_wait, refusal_open}
use Rattle.api_sessions.proofs.Turning.{refused_turn}
use Rattle.api_sessions.proofs.Turning.{replied_causes, turned, wait_causes, wait_told, was_asked}
use Rattle.api_sessions.proofs.serving.serve_next.Goals as goal

pub reply_to-ended-requires : goal.reply_to-ended-requires
reply_to-ended-requires g c =
    let r = c.in-Ok.ensures.bytes in is_taken (c.args.rest.now ++ r.0) c.read_request.new.rest
    c.in-Ok.request.head c.in-Ok.request.body.items r.2

pub returns-in-Ok-clause-turn : goal.returns-in-Ok-clause-turn
returns-in-Ok-clause-turn g c =
    let r = c.in-Ok.ensures.bytes in
    let a = c.reply_to-ended.ensures.answers in
    let closing = c.hears_closing-closing.result in
    let old = g.P.Peer.line c.args.peer.now in
    let read = g.P.Peer.line c.read_request.new.peer in
    let told = g.P.Peer.line c.hears_closing-closing.new.peer in
    let new = g.P.Peer.line c.reply_to-ended.new.peer in
    let before = sources_by g.X.Scrape.told c.args.worker.now in
    let behind = sources_by g.X.Scrape.told c.reply_to-ended.new.worker in
    let w = was_asked closing read told c.hears_closing-closing.ensures.told in (
      r.0,
      a.0,
      a.1,
      closing,
      Consumes-kept old.left told.left new.left r.0
          (subst (λ (l : Option (List ℕ)). Consumes old.left l r.0) (sym w.left) r.1)
          c.reply_to-ended.ensures.others.left,
      given_behind old.given told.given new.given a.0
          (subst (λ (l : Option (List ℕ)). Keeps old.given l) (sym w.given) c.in-Ok.ensures.given)
          a.2,
      a.3,
      c.reply_to-ended.ensures.others.closings
          ∙ (w.closings ∙ ap (raised_where closing) c.in-Ok.ensures.closings),
      subst
          (λ (p : Option Paused). Turns c.args.which c.args.spent closing before behind
          (c.args.rest.now ++ r.0) c.read_request.new.rest a.0 a.1 p)
          (sym c.paused_by.ensures)
          (turned c.while_closing-found.result c.is_last-last.result c.in-Ok.request.head
          c.in-Ok.request.body.items before behind a.0 c.args.which (c.args.rest.now ++ r.0)
          c.read_request.new.rest c.args.spent closing a.1
          c.reply_to-ended.result c.drained.result c.while_closing-found.ensures
          c.is_last-last.ensures c.hears_closing-closing.ensures.asked r.2 a.4 c.drained.ensures),
    )

pub returns-in-Ok-clause-quiets : goal.returns-in-Ok-clause-quiets
returns-in-Ok-clause-quiets g c =
    let closing = c.hears_closing-closing.result in
    let old = g.P.Peer.line c.args.peer.now in
    let read = g.P.Peer.line c.read_request.new.peer in
    let told = g.P.Peer.line c.hears_closing-closing.new.peer in
    let w = was_asked closing read told c.hears_closing-closing.ensures.told in
    c.reply_to-ended.ensures.others.quiets
    ∙ (w.quiets
    ∙ (c.in-Ok.ensures.quiets
    ∙ (sym (request_quiets c.drained.result old.quiets)
    ∙ ap (λ (p : Option Paused). quiets_behind p old.quiets) (sym c.paused_by.ensures))))

pub returns-in-Ok-clause-causes : goal.returns-in-Ok-clause-causes
returns-in-Ok-clause-causes g c =
    let a = c.reply_to-ended.ensures.answers in
    let o = c.reply_to-ended.ensures.others in
    let closing = c.hears_closing-closing.result in
    let old = g.P.Peer.line c.args.peer.now in
    let read = g.P.Peer.line c.read_request.new.peer in
    let told = g.P.Peer.line c.hears_closing-closing.new.peer in
    let new = g.P.Peer.line c.reply_to-ended.new.peer in
    let w = was_asked closing read told c.hears_closing-closing.ensures.told in
    subst
    (λ (end : Option Ended). HasCauses old.ends new.ends old.read_faults new.read_faults
    old.write_faults new.write_faults end)
    (sym (ap ended_in c.paused_by.ensures ∙ ended_same c.drained.result))
    (replied_causes old.ends read.ends new.ends old.read_faults read.read_faults new.read_faults
    old.write_faults told.write_faults new.write_faults (o.ends ∙ w.ends)
    (o.read_faults ∙ w.reads) (w.writes ∙ c.in-Ok.ensures.writes) c.in-Ok.ensures.causes
    c.while_closing-found.result c.is_last-last.result c.in-Ok.request.head
    c.in-Ok.request.body.items (sources_by g.X.Scrape.told c.args.worker.now)
    (sources_by g.X.Scrape.told c.reply_to-ended.new.worker) a.0 a.1
    c.drained.result closing c.reply_to-ended.result c.drained.ensures a.4
    c.reply_to-ended.ensures.writes)

pub returns-in-Ok-clause-none_left : goal.returns-in-Ok-clause-none_left
returns-in-Ok-clause-none_left g c =
    let a = c.reply_to-ended.ensures.answers in
    let new = g.P.Peer.line c.reply_to-ended.new.peer in
    subst (LeavesNone new.left)
    (sym (ap ended_in c.paused_by.ensures ∙ ended_same c.drained.result))
    (replied_left new.left c.while_closing-found.result c.is_last-last.result c.in-Ok.request.head
    c.in-Ok.request.body.items (sources_by g.X.Scrape.told c.args.worker.now)
    (sources_by g.X.Scrape.told c.reply_to-ended.new.worker) a.0 a.1
    c.drained.result c.hears_closing-closing.result c.reply_to-ended.result c.drained.ensures a.4)

pub returns-in-Err-Own-clause-none_left : goal.returns-in-Err-Own-clause-none_left
returns-in-Err-Own-clause-none_left g c =
    let r = c.refuse.ensures.bytes in
    refused_left (g.P.Peer.line c.refuse.new.peer).left _ _ r.0 c.refuse.result r.2

pub returns-in-Err-Ends-clause-none_left : goal.returns-in-Err-Ends-clause-none_left
returns-in-Err-Ends-clause-none_left g c =
    ended_left WholeRequest (g.P.Peer.line c.read_request.new.peer).left c.in-Err-Ends.field-0 _ _
    c.in-Err-Ends.field-0-is c.in-Err-Ends.ensures.none_left (sym c.in-Err-Ends.ended-is)

pub returns-in-Err-Waits-clause-none_left : goal.returns-in-Err-Waits-clause-none_left
returns-in-Err-Waits-clause-none_left g c = λ at. absurd (cc)

pub returns-in-Err-Own-clause-turn : goal.returns-in-Err-Own-clause-turn
returns-in-Err-Own-clause-turn g c =
    let b = c.in-Err-Own.ensures.bytes in
    let r = c.refuse.ensures.bytes in
    let old = g.P.Peer.line c.args.peer.now in
    let read = g.P.Peer.line c.read_request.new.peer in
    let new = g.P.Peer.line c.refuse.new.peer in (
      b.0,
      r.0,
      false,
      false,
      Consumes-kept old.left read.left new.left b.0 b.1 c.refuse.ensures.others.left,
      given_behind old.given read.given new.given r.0 c.in-Err-Own.ensures.given r.1,
      refl,
      c.refuse.ensures.others.closings
          ∙ own_told WholeRequest old.closings read.closings c.in-Err-Own.field-0
          c.in-Err-Own.ensures.closings _ _ c.in-Err-Own.field-0-is,
      inr (
        refl,
        refl,
        refusal_open _ _ r.0 c.refuse.result r.2,
        refused_turn (c.args.rest.now ++ b.0) c.in-Err-Own.field-0 _ _ _ _ r.0 c.refuse.result
            c.in-Err-Own.field-0-is b.2 r.2 (sym c.in-Err-Own.err-is)
            (sym c.in-Err-Own.with_body-is),
      ),
    )

pub returns-in-Err-Own-clause-causes : goal.returns-in-Err-Own-clause-causes
returns-in-Err-Own-clause-causes g c =
    let o = c.refuse.ensures.others in
    let old = g.P.Peer.line c.args.peer.now in
    let read = g.P.Peer.line c.read_request.new.peer in
    let new = g.P.Peer.line c.refuse.new.peer in
    refused_causes old.ends read.ends new.ends old.read_faults read.read_faults new.read_faults
    old.write_faults read.write_faults new.write_faults o.ends o.read_faults
    c.in-Err-Own.ensures.writes WholeRequest c.in-Err-Own.field-0 _ _ c.in-Err-Own.field-0-is
    c.in-Err-Own.ensures.causes _ _ c.refuse.ensures.bytes.0 c.refuse.result
    c.refuse.ensures.bytes.2 c.refuse.ensures.writes

pub returns-in-Err-Ends-clause-causes : goal.returns-in-Err-Ends-clause-causes
returns-in-Err-Ends-clause-causes g c =
    let b = c.in-Err-Ends.ensures.bytes in
    let old = g.P.Peer.line c.args.peer.now in
    let read = g.P.Peer.line c.read_request.new.peer in
    ended_causes (c.args.rest.now ++ b.0) old.ends read.ends old.read_faults read.read_faults
    old.write_faults read.write_faults c.in-Err-Ends.ensures.writes WholeRequest
    c.in-Err-Ends.field-0 _
    _ c.in-Err-Ends.field-0-is b.2 c.in-Err-Ends.ensures.causes (sym c.in-Err-Ends.ended-is)

pub returns-in-Err-Own-clause-quiets : goal.returns-in-Err-Own-clause-quiets
returns-in-Err-Own-clause-quiets g c =
    let old = g.P.Peer.line c.args.peer.now in
    let read = g.P.Peer.line c.read_request.new.peer in
    c.refuse.ensures.others.quiets
    ∙ own_waits WholeRequest old.quiets read.quiets c.in-Err-Own.field-0 c.in-Err-Own.ensures.quiets
    _ _
    c.in-Err-Own.field-0-is

pub returns-in-Err-Ends-clause-quiets : goal.returns-in-Err-Ends-clause-quiets
returns-in-Err-Ends-clause-quiets g c =
    let old = g.P.Peer.line c.args.peer.now in
    let read = g.P.Peer.line c.read_request.new.peer in
    ends_waits WholeRequest old.quiets read.quiets c.in-Err-Ends.field-0
    c.in-Err-Ends.ensures.quiets _
    c.in-Err-Ends.field-0-is

pub returns-in-Err-Waits-clause-quiets : goal.returns-in-Err-Waits-clause-quiets
returns-in-Err-Waits-clause-quiets g c =
    let old = g.P.Peer.line c.args.peer.now in
    let read = g.P.Peer.line c.read_request.new.peer in
    wait_waits WholeRequest old.quiets read.quiets c.in-Err-Waits.field-0
    c.in-Err-Waits.ensures.quiets
    c.in-Err-Waits.field-0-is

pub returns-in-Err-Ends-clause-turn : goal.returns-in-Err-Ends-clause-turn
returns-in-Err-Ends-clause-turn g c =
    let b = c.in-Err-Ends.ensures.bytes in
    let old = g.P.Peer.line c.args.peer.now in
    let read = g.P.Peer.line c.read_request.new.peer in (
      b.0,
      [],
      false,
      is_drained (Some c.in-Err-Ends.ended),
      b.1,
      gives_none old.given read.given c.in-Err-Ends.ensures.given,
      refl,
      ends_told WholeRequest old.closings read.closings c.in-Err-Ends.field-0
          c.in-Err-Ends.ensures.closings _ c.in-Err-Ends.ended c.in-Err-Ends.field-0-is refl,
      inr (
        refl,
        refl,
        ap (λ (e : Ended). is_drained (Some e)) (sym c.in-Err-Ends.ended-is),
        quiet_turn (c.args.rest.now ++ b.0) c.in-Err-Ends.field-0 _ _ c.in-Err-Ends.field-0-is b.2
            (sym c.in-Err-Ends.ended-is),
      ),
    )

pub returns-in-Err-Waits-clause-turn : goal.returns-in-Err-Waits-clause-turn
returns-in-Err-Waits-clause-turn g c =
    let b = c.in-Err-Waits.ensures.bytes in
    let old = g.P.Peer.line c.args.peer.now in
    let read = g.P.Peer.line c.read_request.new.peer in (
      b.0,
      [],
      false,
      false,
      b.1,
      gives_none old.given read.given c.in-Err-Waits.ensures.given,
      refl,
      wait_told WholeRequest old.closings read.closings c.in-Err-Waits.field-0
          c.in-Err-Waits.ensures.closings c.in-Err-Waits.field-0-is,
      quiet_wait (c.args.rest.now ++ b.0) c.in-Err-Waits.field-0
          (sources_by g.X.Scrape.told c.args.worker.now) c.in-Err-Waits.field-0-is b.2,
    )

pub returns-in-Err-Waits-clause-causes : goal.returns-in-Err-Waits-clause-causes
returns-in-Err-Waits-clause-causes g c =
    let old = g.P.Peer.line c.args.peer.now in
    let read = g.P.Peer.line c.read_request.new.peer in
    wait_causes WholeRequest old.ends read.ends old.read_faults read.read_faults old.write_faults
    read.write_faults c.in-Err-Waits.field-0 c.in-Err-Waits.field-0-is c.in-Err-Waits.ensures.causes
    c.in-Err-Waits.ensures.writes
