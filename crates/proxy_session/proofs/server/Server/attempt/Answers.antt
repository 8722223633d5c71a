use Rattle.std.proofs.Common.{refl, ap, not, inl, ◌∙◌}
use Rattle.machine.specs.Code.{ask_of}
use Rattle.proxy_session.specs.Callers.{caller_of}
use Rattle.proxy_session.specs.Sought.{sought_of}
use Rattle.proxy_session.specs.declared.onward.Onward.{Onward}
use Rattle.proxy_session.specs.Standing.{standing}
use Rattle.proxy_session.proofs.Exchanging.{asks_sent, word_found}
use Rattle.replica_try.proofs.Resting.{idle_same, rests_same}
use Rattle.proxy_session.proofs.Slots.{finding_slot, finding_word, stopping_slot}
use Rattle.proxy_session.proofs.server.Server.attempt.Goals as goal

pub send_found-made-requires-clause-word : goal.send_found-made-requires-clause-word
send_found-made-requires-clause-word g c =
    let f = c.in-Ok.ensures.ok in
    word_found f.0 c.find.new.names c.in-Ok.asked.pick f.2
    (finding_word g.J.Naming.settings (caller_of c.args.self.now.pass) (caller_of c.find.new.pass)
    (ask_of c.args.request.now.ask) f.0 f.1)

pub send_found-made-requires-clause-free : goal.send_found-made-requires-clause-free
send_found-made-requires-clause-free g c =
    let f = c.in-Ok.ensures.ok in
    finding_slot g.J.Naming.settings (caller_of c.args.self.now.pass) (caller_of c.find.new.pass)
    (ask_of c.args.request.now.ask) f.0 f.1 ∙ c.requires.free

pub returns-in-Ok-clause-asks : goal.returns-in-Ok-clause-asks
returns-in-Ok-clause-asks g c =
    let at = standing g.P.Peer.line g.D.Dialer.upstream g.C.Clock.to_come in
    let f = c.in-Ok.ensures.ok in
    let going : Onward = record {
      head = c.args.head;
      last = c.args.last;
      fewer = c.args.fewer;
      framing = c.args.request.now.framing;
      target = c.as_slice.result;
      host = c.as_slice-in-Ok.result;
      ask = record { ref_ptr = c.args.head.ref_ptr; now = c.args.request.now.ask };
      closes = not c.keeps.result;
      hit = c.in-Ok.asked.hit;
    } in
    asks_sent g.J.Naming.settings (sought_of c.args.request.now) going
    (at c.args.connection.now c.args.self.now) (at c.send_found-made.new.connection
    c.send_found-made.new.self)
    (record {
      host = c.as_slice-in-Ok.ensures.value;
      line = c.as_slice.ensures.value;
      framing = refl;
      closes = ap not c.keeps.ensures;
    }) (caller_of c.find.new.pass)
    c.args.connection.now.budget c.send_found-made.new.connection.budget refl refl
    f.0 c.find.new.names c.in-Ok.asked.pick c.send_found-made.result.how
    c.send_found-made.result.done f.1
    f.2 f.3 c.send_found-made.ensures.words c.send_found-made.ensures.sends

pub returns-in-Err-clause-asks : goal.returns-in-Err-clause-asks
returns-in-Err-clause-asks g c = (
  (
    refl,
    refl,
    inl (record {
      asks = inl c.in-Err.ensures.err;
      moments_are = refl;
      away = record {
        kept = refl;
        upstream = idle_same (g.D.Dialer.upstream c.args.self.now.way.dialer);
      };
      line = rests_same (g.P.Peer.line c.args.connection.now.peer);
      ends = refl;
    }),
  ),
  c.stopped.ensures.done,
)

pub returns-in-Err-clause-slot : goal.returns-in-Err-clause-slot
returns-in-Err-clause-slot g c =
    stopping_slot g.J.Naming.settings (caller_of c.args.self.now.pass) (caller_of c.find.new.pass)
    (ask_of c.args.request.now.ask) c.in-Err.ensures.err ∙ c.requires.free
