use Rattle.std.proofs.Common.{List, ℕ, ap, refl, subst, sym, ◌∙◌}
use Rattle.std.specs.Prelude.{Option}
use Rattle.http_wire.specs.declared.paused.Paused.TheVariants as paused
use Rattle.line_base.specs.declared.socket_address.SocketAddress.{SocketAddress}
use Rattle.line_base.specs.Dials.{Upstream}
use Rattle.line_base.specs.Lines.{Line}
use Rattle.replica_try.specs.declared.way.Way.{Way}
use Rattle.router.specs.Tickets.{told_in}
use Rattle.proxy_session.specs.Exchange.{Standing}
use Rattle.proxy_session.specs.Standing.{standing}
use Rattle.client_stays.specs.Chains.{CameTo, GoesOn, Idle, IsWaiting, Visit, idle_behind}
use Rattle.client_stays.specs.Chains.{idle_by}
use Rattle.client_stays.specs.Recorded.{StaysWithAs}
use Rattle.client_stays.specs.Servers.{StaysWith, server_value}
use Rattle.client_stays.proofs.Chaining.{waits_on}
use Rattle.client_stays.proofs.Learning.{server_learned, stay_by, told_by_stay}
use Rattle.client_stays.proofs.client.IdleClient.serve.Goals as goal

pub serve_stay-requires : goal.serve_stay-requires
serve_stay-requires g c = record {
  free = c.learn.ensures.more.seat.slot ∙ c.requires.free;
  few = c.self.invariant.few;
}

pub invariant_of-result : goal.invariant_of-result
invariant_of-result g c =
    let line_of = λ (p : g.row.P.Denot). let l : Line = g.P.Peer.line p in l in
    let upstream = λ (d : g.row.D.Denot). let u : Upstream = g.D.Dialer.upstream d in u in
    let moments = λ (k : g.row.C.Denot). let m : Option (List ℕ) = g.C.Clock.to_come k in m in
    let inside = c.self.inside in
    let learned = c.learn.ensures in
    let served = c.serve_stay.ensures in
    let idle : Idle = idle_by (line_of inside.first.value) (line_of inside.connection.peer)
    inside.connection.client inside.connection.served inside.connection.budget
    (told_in inside.ticket) in
    let old : Standing = standing line_of upstream moments inside.connection c.learn.new.self in
    let new : Standing =
    standing line_of upstream moments c.serve_stay.new.connection c.serve_stay.new.self in
    let visit : Visit = record {
      from = inside.connection.served;
      upto = c.serve_stay.new.connection.served;
      before = inside.connection.budget;
      behind = c.serve_stay.new.connection.budget;
      old = old;
      new = new;
    } in
    let goes : GoesOn idle visit =
    record { line = refl; served = refl; budget = refl; seen = learned.told } in
    let By : Option SocketAddress → Type 0 = λ client. IsWaiting g.J.Naming.settings
    g.J.Handling.rule g.J.Handling.tries (idle_by (line_of inside.first.value) new.line client
    visit.upto visit.behind (told_in c.ticket.result)) in
    let waits : By inside.connection.client = waits_on g.J.Naming.settings g.J.Handling.rule
    g.J.Handling.tries idle visit (told_in c.ticket.result) c.self.invariant.chain goes
    (stay_by g.J.Naming.settings c.args.context.now.rule.now g.J.Handling.rule visit
    c.serve_stay.result paused.Quiet c.requires.rule c.in-Quiet.is served.stay)
    (served.few c.in-Quiet.is) c.ticket.ensures in
    subst By (sym served.client) waits

pub returns-in-Quiet : goal.returns-in-Quiet
returns-in-Quiet g c =
    let line_of = λ (p : g.row.P.Denot). let l : Line = g.P.Peer.line p in l in
    let upstream = λ (d : g.row.D.Denot). let u : Upstream = g.D.Dialer.upstream d in u in
    let moments = λ (k : g.row.C.Denot). let m : Option (List ℕ) = g.C.Clock.to_come k in m in
    let inside = c.self.inside in
    let learned = c.learn.ensures in
    let served = c.serve_stay.ensures in
    let idle : Idle = idle_by (line_of inside.first.value) (line_of inside.connection.peer)
    inside.connection.client inside.connection.served inside.connection.budget
    (told_in inside.ticket) in
    let old : Standing = standing line_of upstream moments inside.connection c.learn.new.self in
    let new : Standing =
    standing line_of upstream moments c.serve_stay.new.connection c.serve_stay.new.self in
    let visit : Visit = record {
      from = inside.connection.served;
      upto = c.serve_stay.new.connection.served;
      before = inside.connection.budget;
      behind = c.serve_stay.new.connection.budget;
      old = old;
      new = new;
    } in
    let goes : GoesOn idle visit =
    record { line = refl; served = refl; budget = refl; seen = learned.told } in
    let result : Idle = idle_by (line_of inside.first.value)
    (line_of c.serve_stay.new.connection.peer) c.serve_stay.new.connection.client
    c.serve_stay.new.connection.served c.serve_stay.new.connection.budget
    (told_in c.ticket.result) in
    let before = server_value upstream moments c.args.server.now in
    let after = server_value upstream moments c.serve_stay.new.self in
    let told = served.told in
    let by_stay = told_by_stay g.J.Naming.settings c.args.context.now.rule.now g.J.Handling.rule
    visit c.serve_stay.result paused.Quiet inside.connection.client told.0 c.requires.rule
    c.in-Quiet.is told.1 in
    let stays : StaysWith g.J.Naming.settings g.J.Handling.rule idle before after result
    paused.Quiet = record {
      visit = visit;
      learns = server_learned upstream moments c.args.server.now c.learn.new.self
          (told_in inside.ticket) learned.way learned.clock learned.words learned.number
          learned.seen learned.more;
      goes_on = goes;
      stay = by_stay.0;
      leaves = refl;
      behind_is = λ i. idle_by (line_of inside.first.value) new.line (served.client i) visit.upto
          visit.behind (c.ticket.ensures i);
    } in
    let whole = subst (λ (i : Idle). StaysWithAs g.J.Naming.settings g.J.Handling.rule i before
    after result paused.Quiet told.0) c.self.view_is (stays, by_stay.1) in
    record {
      chain = subst (λ (i : Idle). CameTo g.J.Naming.settings g.J.Handling.rule
          g.J.Handling.tries i) c.self.view_is c.self.invariant.chain;
      stays = whole.0;
      told = (told.0, whole, told.2);
      free = served.slot;
      number = served.number ∙ learned.number;
      closed = λ none. served.closed (ap (λ (w : Way g.row.D.Denot). (upstream w.dialer).open_to)
          learned.way ∙ none);
      pool = served.pool ∙ ap (λ (w : Way g.row.D.Denot). (upstream w.dialer).pool)
          learned.way;
    }

pub returns-in-Ended : goal.returns-in-Ended
returns-in-Ended g c =
    let line_of = λ (p : g.row.P.Denot). let l : Line = g.P.Peer.line p in l in
    let upstream = λ (d : g.row.D.Denot). let u : Upstream = g.D.Dialer.upstream d in u in
    let moments = λ (k : g.row.C.Denot). let m : Option (List ℕ) = g.C.Clock.to_come k in m in
    let inside = c.self.inside in
    let learned = c.learn.ensures in
    let served = c.serve_stay.ensures in
    let idle : Idle = idle_by (line_of inside.first.value) (line_of inside.connection.peer)
    inside.connection.client inside.connection.served inside.connection.budget
    (told_in inside.ticket) in
    let old : Standing = standing line_of upstream moments inside.connection c.learn.new.self in
    let new : Standing =
    standing line_of upstream moments c.serve_stay.new.connection c.serve_stay.new.self in
    let visit : Visit = record {
      from = inside.connection.served;
      upto = c.serve_stay.new.connection.served;
      before = inside.connection.budget;
      behind = c.serve_stay.new.connection.budget;
      old = old;
      new = new;
    } in
    let goes : GoesOn idle visit =
    record { line = refl; served = refl; budget = refl; seen = learned.told } in
    let before = server_value upstream moments c.args.server.now in
    let after = server_value upstream moments c.serve_stay.new.self in
    let behind = idle_behind idle visit in
    let told = served.told in
    let by_stay = told_by_stay g.J.Naming.settings c.args.context.now.rule.now g.J.Handling.rule
    visit c.serve_stay.result (paused.Ended c.in-Ended.ended) inside.connection.client told.0
    c.requires.rule c.in-Ended.is told.1 in
    let stays : StaysWith g.J.Naming.settings g.J.Handling.rule idle before after behind
    (paused.Ended c.in-Ended.ended) = record {
      visit = visit;
      learns = server_learned upstream moments c.args.server.now c.learn.new.self
          (told_in inside.ticket) learned.way learned.clock learned.words learned.number
          learned.seen learned.more;
      goes_on = goes;
      stay = by_stay.0;
      leaves = refl;
      behind_is = refl;
    } in
    let whole = subst (λ (i : Idle). StaysWithAs g.J.Naming.settings g.J.Handling.rule i before
    after behind (paused.Ended c.in-Ended.ended) told.0) c.self.view_is (stays, by_stay.1) in
    let client = ap line_of c.into_peer.ensures in
    record {
      chain = subst (λ (i : Idle). CameTo g.J.Naming.settings g.J.Handling.rule
          g.J.Handling.tries i) c.self.view_is c.self.invariant.chain;
      stays = (behind, whole.0, client);
      told = (told.0, ((behind, whole.0, client), whole.1), told.2);
      free = served.slot;
      number = served.number ∙ learned.number;
      closed = λ none. served.closed (ap (λ (w : Way g.row.D.Denot). (upstream w.dialer).open_to)
          learned.way ∙ none);
      pool = served.pool ∙ ap (λ (w : Way g.row.D.Denot). (upstream w.dialer).pool)
          learned.way;
    }
