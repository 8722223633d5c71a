use Rattle.std.proofs.Common.{◌<◌, [], ◌∷◌, ◌++◌, length, refl, sym, ◌∙◌, arith}
use Rattle.line_base.proofs.Links.{links_on, links_same}
use Rattle.std.proofs.KnownBytes.{Consumes-nil, Consumes-kept, Keeps-refl, Keeps-trans}
use Rattle.body_wire.specs.declared.end.BodyEnd.{BodyEnd}
use Rattle.body_wire.specs.declared.form.Form.{Form}
use Rattle.body_wire.specs.Passing.{most_passed}
use Rattle.body_wire.proofs.Passes.{begins, answered, answer_not_at_end, no_answer, on_piece}
use Rattle.body_wire.proofs.Passes.{on_end, on_fault, turn_smaller, turn_waits}
use Rattle.body_wire.proofs.Sent.{Sends-nil, Sends-trans, came_piece}
use Rattle.body_wire.proofs.Telling.{answers_none, answers_own, ends_with_none}
use Rattle.body_wire.proofs.onward.pass_body.Goals as goal

pub pieces-init : goal.pieces-init
pieces-init g c = record {
  way = (
    [],
    [],
    Consumes-nil (g.P.Peer.line c.args.peer.now).left,
    Sends-nil (g.D.Dialer.upstream c.args.dialer.now).log,
    begins c.args.framing Form.Chunks most_passed c.of-decoder.result c.args.out.now.items
        c.args.rest.now c.of-decoder.ensures.holds c.of-decoder.ensures.form
        c.of-decoder.ensures.limit,
  );
  ends = refl;
  closings = refl;
  quiets = refl;
  reads = refl;
  given = Keeps-refl (g.P.Peer.line c.args.peer.now).given;
  writes = refl;
  faults = refl;
  open_ = links_same (g.D.Dialer.upstream c.args.dialer.now);
  left = Keeps-refl (g.D.Dialer.upstream c.args.dialer.now).left;
}

pub returns-in-Some-clause-body : goal.returns-in-Some-clause-body
returns-in-Some-clause-body g c =
    let w = c.pieces.invariant.way in
    let t = c.send_turn-turn.ensures.bytes in (
      w.0,
      w.1 ++ t.0,
      w.2,
      Sends-trans (g.D.Dialer.upstream c.args.dialer.now).log
          (g.D.Dialer.upstream c.pieces.dialer).log
          (g.D.Dialer.upstream c.send_turn-turn.new.dialer).log w.1 t.0 w.3 t.1,
      answered c.args.framing Form.Chunks most_passed c.pieces.decoder c.send_turn-turn.new.decoder
          c.args.out.now.items c.args.rest.now w.0 w.1 c.pieces.out.items
          c.pieces.rest c.send_turn-turn.new.rest t.0 w.4 BodyEnd.SendFault c.send_turn-turn.result
          c.in-Some.end (λ all went front. front) (λ taken passed rest front. front) t.2
          (sym c.answer.ensures ∙ c.in-Some.is),
    )

pub returns-in-Some-clause-ends : goal.returns-in-Some-clause-ends
returns-in-Some-clause-ends g c =
    let w = c.pieces.invariant.way in
    let t = c.send_turn-turn.ensures.bytes in
    let quiet =
    answer_not_at_end c.args.framing Form.Chunks most_passed c.pieces.decoder
    c.send_turn-turn.new.decoder c.args.out.now.items c.args.rest.now w.0 w.1 c.pieces.out.items
    c.pieces.rest c.send_turn-turn.new.rest t.0 BodyEnd.SendFault c.send_turn-turn.result
    c.in-Some.end w.4 refl t.2 (sym c.answer.ensures ∙ c.in-Some.is) in
    record { ended = λ at. cc; others = λ no. c.pieces.invariant.ends }

pub returns-in-Some-clause-none_left : goal.returns-in-Some-clause-none_left
returns-in-Some-clause-none_left g c =
    let w = c.pieces.invariant.way in
    let t = c.send_turn-turn.ensures.bytes in
    let quiet =
    answer_not_at_end c.args.framing Form.Chunks most_passed c.pieces.decoder
    c.send_turn-turn.new.decoder c.args.out.now.items c.args.rest.now w.0 w.1 c.pieces.out.items
    c.pieces.rest c.send_turn-turn.new.rest t.0 BodyEnd.SendFault c.send_turn-turn.result
    c.in-Some.end w.4 refl t.2 (sym c.answer.ensures ∙ c.in-Some.is) in
    λ at. cc

pub returns-in-Ok-eq0-clause-none_left : goal.returns-in-Ok-eq0-clause-none_left
returns-in-Ok-eq0-clause-none_left g c = λ at. c.in-Ok-eq0.ensures.bytes.3 c.in-Ok-eq0.field-0-test

pub returns-in-Ok-eq0-clause-body : goal.returns-in-Ok-eq0-clause-body
returns-in-Ok-eq0-clause-body g c =
    let w = c.pieces.invariant.way in
    let t = c.send_turn-turn.ensures.bytes in
    let b = c.in-Ok-eq0.ensures.bytes in (
      w.0 ++ b.0 ∷ [],
      w.1 ++ t.0,
      came_piece (g.P.Peer.line c.args.peer.now).left (g.P.Peer.line c.pieces.peer).left
          (g.P.Peer.line c.pull.new.peer).left w.0 b.0 w.2 b.1,
      Sends-trans (g.D.Dialer.upstream c.args.dialer.now).log
          (g.D.Dialer.upstream c.pieces.dialer).log
          (g.D.Dialer.upstream c.send_turn-turn.new.dialer).log w.1 t.0 w.3 t.1,
      on_end c.args.framing Form.Chunks most_passed c.pieces.decoder c.send_turn-turn.new.decoder
          c.args.out.now.items c.args.rest.now w.0 w.1 c.pieces.out.items
          c.pieces.rest c.send_turn-turn.new.rest t.0 c.send_turn-turn.result w.4 t.2
          (no_answer c.send_turn-turn.new.decoder.count BodyEnd.SendFault c.send_turn-turn.result
          (sym c.answer.ensures ∙ c.in-None.is)) b.0 c.pull.new.self c.at_end.result
          (b.2 ∙ c.in-Ok-eq0.field-0-test) b.4 c.at_end.ensures,
    )

pub pieces-preserved : goal.pieces-preserved
pieces-preserved g c =
    let i = c.pieces.invariant in
    let w = i.way in
    let t = c.send_turn-turn.ensures.bytes in
    let b = c.in-Ok.ensures.bytes in
    let some : 0 < c.in-Ok.field-0 = let none = c.in-Ok.field-0-test in omega arith in
    let more = no_answer c.send_turn-turn.new.decoder.count BodyEnd.SendFault
    c.send_turn-turn.result (sym c.answer.ensures ∙ c.in-None.is) in
    record {
      way = (
        w.0 ++ b.0 ∷ [],
        w.1 ++ t.0,
        came_piece (g.P.Peer.line c.args.peer.now).left (g.P.Peer.line c.pieces.peer).left
            (g.P.Peer.line c.pull.new.peer).left w.0 b.0 w.2 b.1,
        Sends-trans (g.D.Dialer.upstream c.args.dialer.now).log
            (g.D.Dialer.upstream c.pieces.dialer).log
            (g.D.Dialer.upstream c.send_turn-turn.new.dialer).log w.1 t.0 w.3 t.1,
        on_piece c.args.framing Form.Chunks most_passed c.pieces.decoder
            c.send_turn-turn.new.decoder c.args.out.now.items c.args.rest.now w.0 w.1
            c.pieces.out.items
            c.pieces.rest c.send_turn-turn.new.rest t.0 c.send_turn-turn.result w.4 t.2 more
            c.send_turn-turn.new.out.items b.0 c.pull.new.self c.send_turn-turn.ensures.out b.4
            c.in-Ok.ensures.most,
      );
      ends = c.in-Ok.ensures.end.given some ∙ i.ends;
      closings = c.in-Ok.ensures.others.closings ∙ i.closings;
      quiets = c.in-Ok.ensures.others.quiets ∙ i.quiets;
      reads = c.in-Ok.ensures.cause.kept ∙ i.reads;
      given = Keeps-trans (g.P.Peer.line c.args.peer.now).given (g.P.Peer.line c.pieces.peer).given
          (g.P.Peer.line c.pull.new.peer).given i.given c.in-Ok.ensures.others.given;
      writes = c.in-Ok.ensures.others.write_faults ∙ i.writes;
      faults = c.send_turn-turn.ensures.cause.others (λ failed. cc) ∙ i.faults;
      open_ = links_on i.open_ c.send_turn-turn.ensures.stays.0;
      left = Keeps-trans (g.D.Dialer.upstream c.args.dialer.now).left
          (g.D.Dialer.upstream c.pieces.dialer).left
          (g.D.Dialer.upstream c.send_turn-turn.new.dialer).left i.left
          c.send_turn-turn.ensures.stays.1;
    }

pub returns-in-Err-clause-body : goal.returns-in-Err-clause-body
returns-in-Err-clause-body g c =
    let w = c.pieces.invariant.way in
    let t = c.send_turn-turn.ensures.bytes in
    let b = c.in-Err.ensures.bytes in
    let more = no_answer c.send_turn-turn.new.decoder.count BodyEnd.SendFault
    c.send_turn-turn.result (sym c.answer.ensures ∙ c.in-None.is) in
    let faults =
    on_fault c.args.framing Form.Chunks most_passed c.pieces.decoder c.send_turn-turn.new.decoder
    c.args.out.now.items c.args.rest.now w.0 w.1 c.pieces.out.items c.pieces.rest
    c.send_turn-turn.new.rest t.0 c.send_turn-turn.result w.4 t.2 more c.pull.new.self b.1 in (
      w.0,
      w.1 ++ t.0,
      Consumes-kept (g.P.Peer.line c.args.peer.now).left (g.P.Peer.line c.pieces.peer).left
          (g.P.Peer.line c.pull.new.peer).left _ w.2 b.0,
      Sends-trans (g.D.Dialer.upstream c.args.dialer.now).log
          (g.D.Dialer.upstream c.pieces.dialer).log
          (g.D.Dialer.upstream c.send_turn-turn.new.dialer).log w.1 t.0 w.3 t.1,
      faults.0,
    )

pub returns-in-Some-clause-reads : goal.returns-in-Some-clause-reads
returns-in-Some-clause-reads g c = record {
  here = λ at. absurd (answers_none c.send_turn-turn.new.decoder.count BodyEnd.SendFault
      BodyEnd.ReadFault c.send_turn-turn.result c.in-Some.end
      (sym c.answer.ensures ∙ c.in-Some.is) refl (λ e. cc) at);
  others = λ other. c.pieces.invariant.reads;
}

pub returns-in-Some-clause-sends : goal.returns-in-Some-clause-sends
returns-in-Some-clause-sends g c =
    answers_own c.send_turn-turn.new.decoder.count BodyEnd.SendFault c.send_turn-turn.result
    c.in-Some.end (g.D.Dialer.upstream c.args.dialer.now).faults
    (g.D.Dialer.upstream c.pieces.dialer).faults
    (g.D.Dialer.upstream c.send_turn-turn.new.dialer).faults
    (sym c.answer.ensures ∙ c.in-Some.is) refl c.pieces.invariant.faults
    c.send_turn-turn.ensures.cause

pub returns-in-Some-clause-never : goal.returns-in-Some-clause-never
returns-in-Some-clause-never g c =
    let answer = sym c.answer.ensures ∙ c.in-Some.is in (
      answers_none c.send_turn-turn.new.decoder.count BodyEnd.SendFault BodyEnd.WriteFault
          c.send_turn-turn.result c.in-Some.end answer refl (λ e. cc),
      answers_none c.send_turn-turn.new.decoder.count BodyEnd.SendFault BodyEnd.RecvFault
          c.send_turn-turn.result c.in-Some.end answer refl (λ e. cc),
    )

pub returns-in-Ok-eq0-clause-reads : goal.returns-in-Ok-eq0-clause-reads
returns-in-Ok-eq0-clause-reads g c = record {
  here = λ at. absurd (ends_with_none c.args.framing c.send_turn-turn.new.decoder.count
      BodyEnd.ReadFault c.at_end.result c.at_end.ensures refl at);
  others = λ other. c.in-Ok-eq0.ensures.cause.kept ∙ c.pieces.invariant.reads;
}

pub returns-in-Ok-eq0-clause-sends : goal.returns-in-Ok-eq0-clause-sends
returns-in-Ok-eq0-clause-sends g c =
    let more = no_answer c.send_turn-turn.new.decoder.count BodyEnd.SendFault
    c.send_turn-turn.result (sym c.answer.ensures ∙ c.in-None.is) in
    record {
      here = λ at. absurd (ends_with_none c.args.framing c.send_turn-turn.new.decoder.count
          BodyEnd.SendFault c.at_end.result c.at_end.ensures refl at);
      others = λ other. c.send_turn-turn.ensures.cause.others (λ failed. cc)
          ∙ c.pieces.invariant.faults;
    }

pub returns-in-Ok-eq0-clause-never : goal.returns-in-Ok-eq0-clause-never
returns-in-Ok-eq0-clause-never g c = (
  ends_with_none c.args.framing c.send_turn-turn.new.decoder.count BodyEnd.WriteFault
      c.at_end.result c.at_end.ensures refl,
  ends_with_none c.args.framing c.send_turn-turn.new.decoder.count BodyEnd.RecvFault
      c.at_end.result c.at_end.ensures refl,
)

pub pieces-smaller : goal.pieces-smaller
pieces-smaller g c =
    let t = c.send_turn-turn.ensures.bytes in
    let b = c.in-Ok.ensures.bytes in
    let more = no_answer c.send_turn-turn.new.decoder.count BodyEnd.SendFault
    c.send_turn-turn.result (sym c.answer.ensures ∙ c.in-None.is) in
    let some : 0 < length b.0 = omega (arith, b.2, c.in-Ok.field-0-test) in
    turn_smaller c.pieces.decoder c.send_turn-turn.new.decoder c.pieces.rest
    c.send_turn-turn.new.rest c.pieces.out.items t.0 c.send_turn-turn.result b.0 c.pull.new.self t.2
    (turn_waits c.pieces.decoder c.send_turn-turn.new.decoder c.pieces.rest
    c.send_turn-turn.new.rest c.pieces.out.items t.0 c.send_turn-turn.result t.2 more) some b.4
