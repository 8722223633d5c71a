use Rattle.std.proofs.Common.{◌<◌, ℕ, ◌++◌, length, refl, sym, subst, ◌∙◌, arith, Result}
use Rattle.std.proofs.KnownBytes.{Consumes-kept, Consumes-trans, Keeps-trans}
use Rattle.std.specs.declared.vec.Vec.{Vec}
use Rattle.std.specs.declared.alloc.Global.{Global}
use Rattle.body_wire.specs.declared.decoder.StopCause.{StopCause}
use Rattle.body_wire.specs.declared.end.BodyEnd.{BodyEnd}
use Rattle.body_wire.specs.Passing.{ReadsBody}
use Rattle.body_wire.specs.Stands.{Stops}
use Rattle.body_wire.proofs.Collected.{goes_on, piece_came, whole, bad, too_long, no_memory, fault}
use Rattle.body_wire.proofs.Collected.{at_end, smaller}
use Rattle.body_wire.proofs.Passes.{whole_not_to_end}
use Rattle.body_wire.proofs.read.read_body.Goals as goal

pub returns-in-Ok-Whole-clause-body : goal.returns-in-Ok-Whole-clause-body
returns-in-Ok-Whole-clause-body g c =
    let r = c.pieces.invariant.reads in
    let e = c.in-Ok-Whole.ensures in
    let on = goes_on c.args.framing c.pieces.decoder c.take_all.new.decoder c.args.rest.now r.0
    c.pieces.content.items c.take_all.new.out.items c.pieces.rest c.take_all.new.rest r.2 e.0 in
    let stops = subst (λ (stop : StopCause). Stops c.take_all.new.decoder c.take_all.new.rest stop)
    c.in-Ok-Whole.field-0-is e.1 in (
      r.0,
      r.1,
      whole c.args.framing c.take_all.new.decoder c.args.rest.now r.0
          c.take_all.new.out.items c.take_all.new.rest on c.take_all.new.out refl stops,
    )

pub returns-in-Ok-Whole-clause-ends : goal.returns-in-Ok-Whole-clause-ends
returns-in-Ok-Whole-clause-ends g c =
    let r = c.pieces.invariant.reads in
    let e = c.in-Ok-Whole.ensures in
    let on = goes_on c.args.framing c.pieces.decoder c.take_all.new.decoder c.args.rest.now r.0
    c.pieces.content.items c.take_all.new.out.items c.pieces.rest c.take_all.new.rest r.2 e.0 in
    let stops = subst (λ (stop : StopCause). Stops c.take_all.new.decoder c.take_all.new.rest stop)
    c.in-Ok-Whole.field-0-is e.1 in
    let quiet = whole_not_to_end c.args.framing c.take_all.new.decoder on.taken
    c.take_all.new.out.items c.take_all.new.rest on.holds stops in
    record { ended = λ at. cc; others = λ no. c.pieces.invariant.ends }

pub returns-in-Ok-Whole-clause-none_left : goal.returns-in-Ok-Whole-clause-none_left
returns-in-Ok-Whole-clause-none_left g c =
    let r = c.pieces.invariant.reads in
    let e = c.in-Ok-Whole.ensures in
    let on = goes_on c.args.framing c.pieces.decoder c.take_all.new.decoder c.args.rest.now r.0
    c.pieces.content.items c.take_all.new.out.items c.pieces.rest c.take_all.new.rest r.2 e.0 in
    let stops = subst (λ (stop : StopCause). Stops c.take_all.new.decoder c.take_all.new.rest stop)
    c.in-Ok-Whole.field-0-is e.1 in
    let quiet = whole_not_to_end c.args.framing c.take_all.new.decoder on.taken
    c.take_all.new.out.items c.take_all.new.rest on.holds stops in
    λ at. cc

pub returns-in-Ok-eq0-clause-none_left : goal.returns-in-Ok-eq0-clause-none_left
returns-in-Ok-eq0-clause-none_left g c = λ at. c.in-Ok-eq0.ensures.bytes.3 c.in-Ok-eq0.field-0-test

pub returns-in-Ok-Bad-clause-body : goal.returns-in-Ok-Bad-clause-body
returns-in-Ok-Bad-clause-body g c =
    let r = c.pieces.invariant.reads in
    let e = c.in-Ok-Bad.ensures in
    let on = goes_on c.args.framing c.pieces.decoder c.take_all.new.decoder c.args.rest.now r.0
    c.pieces.content.items c.take_all.new.out.items c.pieces.rest c.take_all.new.rest r.2 e.0 in
    let stops = subst (λ (stop : StopCause). Stops c.take_all.new.decoder c.take_all.new.rest stop)
    c.in-Ok-Bad.field-0-is e.1 in (
      r.0,
      r.1,
      bad c.args.framing c.take_all.new.decoder c.args.rest.now r.0
          c.take_all.new.out.items c.take_all.new.rest on stops,
    )

pub returns-in-Ok-TooLong-clause-body : goal.returns-in-Ok-TooLong-clause-body
returns-in-Ok-TooLong-clause-body g c =
    let r = c.pieces.invariant.reads in
    let e = c.in-Ok-TooLong.ensures in
    let on = goes_on c.args.framing c.pieces.decoder c.take_all.new.decoder c.args.rest.now r.0
    c.pieces.content.items c.take_all.new.out.items c.pieces.rest c.take_all.new.rest r.2 e.0 in
    let stops = subst (λ (stop : StopCause). Stops c.take_all.new.decoder c.take_all.new.rest stop)
    c.in-Ok-TooLong.field-0-is e.1 in (
      r.0,
      r.1,
      too_long c.args.framing c.take_all.new.decoder c.args.rest.now r.0
          c.take_all.new.out.items c.take_all.new.rest on stops,
    )

pub returns-in-Err-clause-body : goal.returns-in-Err-clause-body
returns-in-Err-clause-body g c =
    let r = c.pieces.invariant.reads in
    let on =
    goes_on c.args.framing c.pieces.decoder c.take_all.new.decoder c.args.rest.now r.0
    c.pieces.content.items c.take_all.new.out.items c.pieces.rest c.take_all.new.rest r.2
    c.in-Err.ensures in (
      r.0,
      r.1,
      no_memory c.args.framing c.take_all.new.decoder c.args.rest.now r.0
          c.take_all.new.out.items c.take_all.new.rest on,
    )

pub returns-in-Ok-eq0-clause-body : goal.returns-in-Ok-eq0-clause-body
returns-in-Ok-eq0-clause-body g c =
    let r = c.pieces.invariant.reads in
    let e = c.in-Ok-More.ensures in
    let b = c.in-Ok-eq0.ensures.bytes in
    let on = goes_on c.args.framing c.pieces.decoder c.take_all.new.decoder c.args.rest.now r.0
    c.pieces.content.items c.take_all.new.out.items c.pieces.rest c.take_all.new.rest r.2 e.0 in
    let stops = subst (λ (stop : StopCause). Stops c.take_all.new.decoder c.take_all.new.rest stop)
    c.in-Ok-More.field-0-is e.1 in (
      r.0 ++ b.0,
      Consumes-trans (g.P.Peer.line c.args.peer.now).left (g.P.Peer.line c.pieces.peer).left
          (g.P.Peer.line c.pull.new.peer).left r.0 b.0 r.1 b.1,
      subst (λ (result : Result (Vec ℕ Global) BodyEnd). ReadsBody c.args.framing c.args.rest.now
          (r.0 ++ b.0) c.pull.new.self result) (sym c.content_at_end.ensures)
          (at_end c.args.framing c.take_all.new.decoder c.args.rest.now r.0 c.take_all.new.out.items
          c.take_all.new.rest on c.take_all.new.out b.0 c.pull.new.self refl
          (b.2 ∙ c.in-Ok-eq0.field-0-test) b.4 stops),
    )

pub pieces-preserved : goal.pieces-preserved
pieces-preserved g c =
    let i = c.pieces.invariant in
    let r = i.reads in
    let e = c.in-Ok-More.ensures in
    let b = c.in-Ok.ensures.bytes in
    let some : 0 < c.in-Ok.field-0 = let none = c.in-Ok.field-0-test in omega arith in
    let on = goes_on c.args.framing c.pieces.decoder c.take_all.new.decoder c.args.rest.now r.0
    c.pieces.content.items c.take_all.new.out.items c.pieces.rest c.take_all.new.rest r.2 e.0 in
    let stops = subst (λ (stop : StopCause). Stops c.take_all.new.decoder c.take_all.new.rest stop)
    c.in-Ok-More.field-0-is e.1 in
    record {
      reads = (
        r.0 ++ b.0,
        Consumes-trans (g.P.Peer.line c.args.peer.now).left (g.P.Peer.line c.pieces.peer).left
            (g.P.Peer.line c.pull.new.peer).left r.0 b.0 r.1 b.1,
        piece_came c.args.framing c.take_all.new.decoder c.args.rest.now r.0
            c.take_all.new.out.items c.take_all.new.rest on b.0 c.pull.new.self b.4
            c.in-Ok.ensures.most
            stops,
      );
      ends = c.in-Ok.ensures.end.given some ∙ i.ends;
      closings = c.in-Ok.ensures.others.closings ∙ i.closings;
      quiets = c.in-Ok.ensures.others.quiets ∙ i.quiets;
      faults = c.in-Ok.ensures.cause.kept ∙ i.faults;
      given = Keeps-trans (g.P.Peer.line c.args.peer.now).given (g.P.Peer.line c.pieces.peer).given
          (g.P.Peer.line c.pull.new.peer).given i.given c.in-Ok.ensures.others.given;
      writes = c.in-Ok.ensures.others.write_faults ∙ i.writes;
    }

pub returns-in-Err-pull-clause-body : goal.returns-in-Err-pull-clause-body
returns-in-Err-pull-clause-body g c =
    let r = c.pieces.invariant.reads in
    let e = c.in-Ok-More.ensures in
    let b = c.in-Err-pull.ensures.bytes in
    let on = goes_on c.args.framing c.pieces.decoder c.take_all.new.decoder c.args.rest.now r.0
    c.pieces.content.items c.take_all.new.out.items c.pieces.rest c.take_all.new.rest r.2 e.0 in
    let stops = subst (λ (stop : StopCause). Stops c.take_all.new.decoder c.take_all.new.rest stop)
    c.in-Ok-More.field-0-is e.1 in (
      r.0,
      Consumes-kept (g.P.Peer.line c.args.peer.now).left (g.P.Peer.line c.pieces.peer).left
          (g.P.Peer.line c.pull.new.peer).left r.0 r.1 b.0,
      fault c.args.framing c.take_all.new.decoder c.args.rest.now r.0 c.take_all.new.out.items
          c.take_all.new.rest on c.pull.new.self b.1 stops,
    )

pub pieces-smaller : goal.pieces-smaller
pieces-smaller g c =
    let e = c.in-Ok-More.ensures in
    let b = c.in-Ok.ensures.bytes in
    let some : 0 < length b.0 = omega (arith, b.2, c.in-Ok.field-0-test) in
    let stops = subst (λ (stop : StopCause). Stops c.take_all.new.decoder c.take_all.new.rest stop)
    c.in-Ok-More.field-0-is e.1 in
    smaller c.pieces.decoder c.take_all.new.decoder c.pieces.rest c.take_all.new.rest
    c.pieces.content.items c.take_all.new.out.items b.0 c.pull.new.self e.0 stops.waits.1 some b.4
