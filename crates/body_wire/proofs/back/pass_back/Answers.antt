use Rattle.std.proofs.Common.{◌<◌, [], ◌∷◌, ◌++◌, length, refl, sym, ap, ◌∙◌, arith}
use Rattle.line_base.proofs.Links.{links_on, links_same}
use Rattle.std.proofs.KnownBytes.{Appends-nil, Appends-trans, Consumes-nil, Consumes-kept}
use Rattle.std.proofs.KnownBytes.{Keeps-refl, Keeps-trans}
use Rattle.body_wire.specs.declared.end.BodyEnd.{BodyEnd}
use Rattle.body_wire.specs.Passing.{form_of, most_passed}
use Rattle.body_wire.proofs.Passes.{begins, answered, answer_not_at_end, no_answer, on_piece}
use Rattle.body_wire.proofs.Passes.{on_end, on_fault, turn_smaller, turn_waits}
use Rattle.body_wire.proofs.Sent.{Receives-nil, received_more, received_same, came_piece}
use Rattle.body_wire.proofs.Stopping.{no_bytes}
use Rattle.body_wire.proofs.Telling.{answers_none, answers_own, ends_with_none}
use Rattle.body_wire.proofs.back.pass_back.Goals as goal

pub pieces-init : goal.pieces-init
pieces-init g c = record {
  way = (
    [],
    [],
    Consumes-nil (g.D.Dialer.upstream c.args.dialer.now).left,
    Receives-nil (g.D.Dialer.upstream c.args.dialer.now).log,
    Appends-nil (g.P.Peer.line c.args.peer.now).given,
    begins c.args.framing (form_of c.args.chunked) most_passed c.of-decoder.result
        c.args.out.now.items c.args.rest.now c.of-decoder.ensures.holds
        (c.of-decoder.ensures.form ∙ c.of.ensures) c.of-decoder.ensures.limit,
  );
  faults = refl;
  open_ = links_same (g.D.Dialer.upstream c.args.dialer.now);
  writes = refl;
  reads = refl;
  ends = refl;
  closings = refl;
  quiets = refl;
  left = Keeps-refl (g.P.Peer.line c.args.peer.now).left;
}

pub returns-in-Some-clause-body : goal.returns-in-Some-clause-body
returns-in-Some-clause-body g c =
    let w = c.pieces.invariant.way in
    let t = c.write_turn-turn.ensures.bytes in
    let quiet =
    answer_not_at_end c.args.framing (form_of c.args.chunked) most_passed c.pieces.decoder
    c.write_turn-turn.new.decoder c.args.out.now.items c.args.rest.now w.0 w.1
    c.pieces.out.items c.pieces.rest c.write_turn-turn.new.rest t.0 BodyEnd.WriteFault
    c.write_turn-turn.result c.in-Some.end w.5 refl t.2
    (sym c.answer.ensures ∙ c.in-Some.is) in (
      w.0,
      w.1 ++ t.0,
      w.2,
      w.3,
      Appends-trans (g.P.Peer.line c.args.peer.now).given (g.P.Peer.line c.pieces.peer).given
          (g.P.Peer.line c.write_turn-turn.new.peer).given w.1 t.0 w.4 t.1,
      (λ at. absurd (let no : ⊥ = cc in no)),
      answered c.args.framing (form_of c.args.chunked) most_passed c.pieces.decoder
          c.write_turn-turn.new.decoder c.args.out.now.items c.args.rest.now w.0 w.1
          c.pieces.out.items
          c.pieces.rest c.write_turn-turn.new.rest t.0 w.5 BodyEnd.WriteFault
          c.write_turn-turn.result c.in-Some.end (λ all went front. front)
          (λ taken passed rest front. front) t.2
          (sym c.answer.ensures ∙ c.in-Some.is),
    )

pub returns-in-Ok-eq0-clause-body : goal.returns-in-Ok-eq0-clause-body
returns-in-Ok-eq0-clause-body g c =
    let w = c.pieces.invariant.way in
    let t = c.write_turn-turn.ensures.bytes in
    let b = c.in-Ok-eq0.ensures.bytes in (
      w.0 ++ b.0 ∷ [],
      w.1 ++ t.0,
      came_piece (g.D.Dialer.upstream c.args.dialer.now).left
          (g.D.Dialer.upstream c.pieces.dialer).left
          (g.D.Dialer.upstream c.pull_from.new.dialer).left
          w.0 b.0 w.2 b.1,
      received_more (g.D.Dialer.upstream c.args.dialer.now).log
          (g.D.Dialer.upstream c.pieces.dialer).log
          (g.D.Dialer.upstream c.pull_from.new.dialer).log w.0
          b.0 w.3 b.2,
      Appends-trans (g.P.Peer.line c.args.peer.now).given (g.P.Peer.line c.pieces.peer).given
          (g.P.Peer.line c.write_turn-turn.new.peer).given w.1 t.0 w.4 t.1,
      (λ at. (w.0, ap (λ p. w.0 ++ p ∷ []) (no_bytes b.0 (b.3 ∙ c.in-Ok-eq0.field-0-test)))),
      on_end c.args.framing (form_of c.args.chunked) most_passed c.pieces.decoder
          c.write_turn-turn.new.decoder c.args.out.now.items c.args.rest.now w.0 w.1
          c.pieces.out.items
          c.pieces.rest c.write_turn-turn.new.rest t.0 c.write_turn-turn.result w.5 t.2
          (no_answer c.write_turn-turn.new.decoder.count BodyEnd.WriteFault c.write_turn-turn.result
          (sym c.answer.ensures ∙ c.in-None.is)) b.0 c.pull_from.new.self
          c.at_end.result (b.3 ∙ c.in-Ok-eq0.field-0-test) b.5 c.at_end.ensures,
    )

pub pieces-preserved : goal.pieces-preserved
pieces-preserved g c =
    let i = c.pieces.invariant in
    let w = i.way in
    let t = c.write_turn-turn.ensures.bytes in
    let b = c.in-Ok.ensures.bytes in
    let more = no_answer c.write_turn-turn.new.decoder.count BodyEnd.WriteFault
    c.write_turn-turn.result (sym c.answer.ensures ∙ c.in-None.is) in
    record {
      way = (
        w.0 ++ b.0 ∷ [],
        w.1 ++ t.0,
        came_piece (g.D.Dialer.upstream c.args.dialer.now).left
            (g.D.Dialer.upstream c.pieces.dialer).left
            (g.D.Dialer.upstream c.pull_from.new.dialer).left
            w.0 b.0 w.2 b.1,
        received_more (g.D.Dialer.upstream c.args.dialer.now).log
            (g.D.Dialer.upstream c.pieces.dialer).log
            (g.D.Dialer.upstream c.pull_from.new.dialer).log
            w.0 b.0 w.3 b.2,
        Appends-trans (g.P.Peer.line c.args.peer.now).given (g.P.Peer.line c.pieces.peer).given
            (g.P.Peer.line c.write_turn-turn.new.peer).given w.1 t.0 w.4 t.1,
        on_piece c.args.framing (form_of c.args.chunked) most_passed c.pieces.decoder
            c.write_turn-turn.new.decoder c.args.out.now.items c.args.rest.now w.0 w.1
            c.pieces.out.items c.pieces.rest c.write_turn-turn.new.rest t.0 c.write_turn-turn.result
            w.5 t.2 more c.write_turn-turn.new.out.items b.0 c.pull_from.new.self
            c.write_turn-turn.ensures.out b.5 c.in-Ok.ensures.most,
      );
      faults = c.in-Ok.ensures.cause.kept ∙ i.faults;
      open_ = links_on i.open_ c.in-Ok.ensures.stays;
      writes = c.write_turn-turn.ensures.cause.others (λ failed. cc) ∙ i.writes;
      reads = c.write_turn-turn.ensures.others.read_faults ∙ i.reads;
      ends = c.write_turn-turn.ensures.others.ends ∙ i.ends;
      closings = c.write_turn-turn.ensures.others.closings ∙ i.closings;
      quiets = c.write_turn-turn.ensures.others.quiets ∙ i.quiets;
      left = Keeps-trans (g.P.Peer.line c.args.peer.now).left (g.P.Peer.line c.pieces.peer).left
          (g.P.Peer.line c.write_turn-turn.new.peer).left i.left
          c.write_turn-turn.ensures.others.left;
    }

pub returns-in-Err-clause-body : goal.returns-in-Err-clause-body
returns-in-Err-clause-body g c =
    let w = c.pieces.invariant.way in
    let t = c.write_turn-turn.ensures.bytes in
    let b = c.in-Err.ensures.bytes in
    let more = no_answer c.write_turn-turn.new.decoder.count BodyEnd.WriteFault
    c.write_turn-turn.result (sym c.answer.ensures ∙ c.in-None.is) in
    let faults =
    on_fault c.args.framing (form_of c.args.chunked) most_passed c.pieces.decoder
    c.write_turn-turn.new.decoder c.args.out.now.items c.args.rest.now w.0 w.1 c.pieces.out.items
    c.pieces.rest c.write_turn-turn.new.rest t.0 c.write_turn-turn.result w.5 t.2 more
    c.pull_from.new.self b.2 in (
      w.0,
      w.1 ++ t.0,
      Consumes-kept (g.D.Dialer.upstream c.args.dialer.now).left
          (g.D.Dialer.upstream c.pieces.dialer).left
          (g.D.Dialer.upstream c.pull_from.new.dialer).left _
          w.2 b.0,
      received_same (g.D.Dialer.upstream c.args.dialer.now).log
          (g.D.Dialer.upstream c.pieces.dialer).log
          (g.D.Dialer.upstream c.pull_from.new.dialer).log w.0
          w.3 b.1,
      Appends-trans (g.P.Peer.line c.args.peer.now).given (g.P.Peer.line c.pieces.peer).given
          (g.P.Peer.line c.write_turn-turn.new.peer).given w.1 t.0 w.4 t.1,
      (λ at. absurd (let no : ⊥ = cc in no)),
      faults.1,
    )

pub returns-in-Some-clause-receives : goal.returns-in-Some-clause-receives
returns-in-Some-clause-receives g c = record {
  here = λ at. absurd (answers_none c.write_turn-turn.new.decoder.count BodyEnd.WriteFault
      BodyEnd.RecvFault c.write_turn-turn.result c.in-Some.end
      (sym c.answer.ensures ∙ c.in-Some.is) refl (λ e. cc) at);
  others = λ other. c.pieces.invariant.faults;
}

pub returns-in-Some-clause-writes : goal.returns-in-Some-clause-writes
returns-in-Some-clause-writes g c =
    answers_own c.write_turn-turn.new.decoder.count BodyEnd.WriteFault c.write_turn-turn.result
    c.in-Some.end (g.P.Peer.line c.args.peer.now).write_faults
    (g.P.Peer.line c.pieces.peer).write_faults
    (g.P.Peer.line c.write_turn-turn.new.peer).write_faults
    (sym c.answer.ensures ∙ c.in-Some.is) refl c.pieces.invariant.writes
    c.write_turn-turn.ensures.cause

pub returns-in-Some-clause-never : goal.returns-in-Some-clause-never
returns-in-Some-clause-never g c =
    let answer = sym c.answer.ensures ∙ c.in-Some.is in (
      answers_none c.write_turn-turn.new.decoder.count BodyEnd.WriteFault BodyEnd.ReadFault
          c.write_turn-turn.result c.in-Some.end answer refl (λ e. cc),
      answers_none c.write_turn-turn.new.decoder.count BodyEnd.WriteFault BodyEnd.SendFault
          c.write_turn-turn.result c.in-Some.end answer refl (λ e. cc),
    )

pub returns-in-Ok-eq0-clause-receives : goal.returns-in-Ok-eq0-clause-receives
returns-in-Ok-eq0-clause-receives g c = record {
  here = λ at. absurd (ends_with_none c.args.framing c.write_turn-turn.new.decoder.count
      BodyEnd.RecvFault c.at_end.result c.at_end.ensures refl at);
  others = λ other. c.in-Ok-eq0.ensures.cause.kept ∙ c.pieces.invariant.faults;
}

pub returns-in-Ok-eq0-clause-writes : goal.returns-in-Ok-eq0-clause-writes
returns-in-Ok-eq0-clause-writes g c =
    let more = no_answer c.write_turn-turn.new.decoder.count BodyEnd.WriteFault
    c.write_turn-turn.result (sym c.answer.ensures ∙ c.in-None.is) in
    record {
      here = λ at. absurd (ends_with_none c.args.framing c.write_turn-turn.new.decoder.count
          BodyEnd.WriteFault c.at_end.result c.at_end.ensures refl at);
      others = λ other. c.write_turn-turn.ensures.cause.others (λ failed. cc)
          ∙ c.pieces.invariant.writes;
    }

pub returns-in-Ok-eq0-clause-never : goal.returns-in-Ok-eq0-clause-never
returns-in-Ok-eq0-clause-never g c = (
  ends_with_none c.args.framing c.write_turn-turn.new.decoder.count BodyEnd.ReadFault
      c.at_end.result c.at_end.ensures refl,
  ends_with_none c.args.framing c.write_turn-turn.new.decoder.count BodyEnd.SendFault
      c.at_end.result c.at_end.ensures refl,
)

pub pieces-smaller : goal.pieces-smaller
pieces-smaller g c =
    let t = c.write_turn-turn.ensures.bytes in
    let b = c.in-Ok.ensures.bytes in
    let more = no_answer c.write_turn-turn.new.decoder.count BodyEnd.WriteFault
    c.write_turn-turn.result (sym c.answer.ensures ∙ c.in-None.is) in
    let some : 0 < length b.0 = omega (arith, b.3, c.in-Ok.field-0-test) in
    turn_smaller c.pieces.decoder c.write_turn-turn.new.decoder c.pieces.rest
    c.write_turn-turn.new.rest c.pieces.out.items t.0 c.write_turn-turn.result b.0
    c.pull_from.new.self t.2
    (turn_waits c.pieces.decoder c.write_turn-turn.new.decoder c.pieces.rest
    c.write_turn-turn.new.rest c.pieces.out.items t.0 c.write_turn-turn.result t.2 more) some b.5
