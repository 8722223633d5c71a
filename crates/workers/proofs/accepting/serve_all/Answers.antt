use Rattle.std.proofs.Common.{◌≡◌, ap, arith}
use Rattle.line_base.specs.Accepts.{Listening, closing, handing, telling}
use Rattle.workers.specs.Turns.{end_of}
use Rattle.workers.proofs.Turning.{begins, came, drained, failed, ticked, went_on}
use Rattle.workers.proofs.accepting.serve_all.Goals as goal

pub serving-init : goal.serving-init
serving-init g c = record {
  working = begins g.W.Serve.serves c.args.server.now (g.L.Listener.state c.args.listener.now)
      c.args.hand.now;
  failed = omega arith;
  few = omega arith;
  later = omega arith;
}

pub serving-preserved-in-Ok-Came : goal.serving-preserved-in-Ok-Came
serving-preserved-in-Ok-Came g c =
    let state = g.L.Listener.state in
    let i = c.serving.invariant in
    let told : state c.next_event.new.self ≡ handing (state c.serving.listener) c.in-Ok-Came.peer
    = rw c.in-Ok-Came.field-0-is at c.in-Ok-Came.ensures.state in
    record {
      working = came g.W.Serve.serves c.args.server.now c.serving.server c.begin-turned.new.self
          c.settle.new.server (state c.args.listener.now) (state c.serving.listener)
          (state c.next_event.new.self) (state c.settle.new.listener) c.args.hand.now
          c.serving.hand c.settle.new.hand c.in-Ok-Came.peer (end_of c.begin-turned.result)
          i.working told c.begin-turned.ensures c.settle.ensures.settles;
      failed = omega arith;
      few = omega arith;
      later = omega (arith, i.later, c.in-Ok-Came.ensures.cause.later, c.settle.ensures.kept);
    }

pub serving-preserved-in-Some-take : goal.serving-preserved-in-Some-take
serving-preserved-in-Some-take g c =
    let state = g.L.Listener.state in
    let i = c.serving.invariant in
    let told : state c.next_event.new.self ≡ telling (state c.serving.listener)
    = rw c.in-Ok-Ready.field-0-is at c.in-Ok-Ready.ensures.state in
    record {
      working = went_on g.W.Serve.serves c.args.server.now c.serving.server
          c.go_on-turned.new.self c.settle-in-Some-take.new.server (state c.args.listener.now)
          (state c.serving.listener) (state c.next_event.new.self)
          (state c.settle-in-Some-take.new.listener)
          c.args.hand.now c.serving.hand c.take.new.hand c.settle-in-Some-take.new.hand
          c.in-Some-take.stay
          (end_of c.go_on-turned.result) i.working told c.in-Some-take.ensures.counts
          c.go_on-turned.ensures c.settle-in-Some-take.ensures.settles;
      failed = omega arith;
      few = omega arith;
      later = omega (
        arith,
        i.later,
        c.in-Ok-Ready.ensures.cause.later,
        c.settle-in-Some-take.ensures.kept,
      );
    }

pub serving-preserved-in-Ok-Tick : goal.serving-preserved-in-Ok-Tick
serving-preserved-in-Ok-Tick g c =
    let state = g.L.Listener.state in
    let i = c.serving.invariant in
    let told : state c.next_event.new.self ≡ telling (state c.serving.listener)
    = rw c.in-Ok-Tick.field-0-is at c.in-Ok-Tick.ensures.state in
    record {
      working = ticked g.W.Serve.serves c.args.server.now c.serving.server c.end_older.new.server
          (state c.args.listener.now) (state c.serving.listener) (state c.next_event.new.self)
          (state c.end_older.new.listener) c.args.hand.now c.serving.hand c.end_older.new.hand
          i.working told c.end_older.ensures.works c.end_older.ensures.still;
      failed = omega arith;
      few = omega arith;
      later = omega (arith, i.later, c.in-Ok-Tick.ensures.cause.later, c.end_older.ensures.kept);
    }

pub returns-in-Ok-Closed-clause-works : goal.returns-in-Ok-Closed-clause-works
returns-in-Ok-Closed-clause-works g c =
    let state = g.L.Listener.state in
    let i = c.serving.invariant in
    let told : state c.next_event.new.self ≡ closing (state c.serving.listener)
    = rw c.in-Ok-Closed.field-0-is at c.in-Ok-Closed.ensures.state in
    drained g.W.Serve.serves c.args.server.now c.serving.server c.drain.new.server
    (state c.args.listener.now) (state c.serving.listener) (state c.next_event.new.self)
    (state c.drain.new.listener) c.args.hand.now c.serving.hand c.drain.new.hand i.working told
    c.drain.ensures.works

pub serving-preserved : goal.serving-preserved
serving-preserved g c =
    let state = g.L.Listener.state in
    let i = c.serving.invariant in
    record {
      working = failed g.W.Serve.serves c.args.server.now c.serving.server
          c.end_oldest.new.server (state c.args.listener.now) (state c.serving.listener)
          (state c.next_event.new.self) (state c.end_oldest.new.listener) c.args.hand.now
          c.serving.hand c.end_oldest.new.hand i.working c.in-Err.ensures.state
          c.end_oldest.ensures.works c.end_oldest.ensures.still;
      failed = omega (
        arith,
        i.failed,
        i.few,
        ap (λ (k : Listening g.row.L-P.Denot). k.run) c.in-Err.ensures.state,
        c.end_oldest.ensures.still.run,
      );
      few = omega (arith, i.few, c.if-failed-ge-BROKEN_RUN.false);
      later = omega (arith, i.later, c.in-Err.ensures.cause.later, c.end_oldest.ensures.kept);
    }

pub returns-then-failed-ge-BROKEN_RUN-clause-works :
    goal.returns-then-failed-ge-BROKEN_RUN-clause-works
returns-then-failed-ge-BROKEN_RUN-clause-works g c =
    let state = g.L.Listener.state in
    let so = failed g.W.Serve.serves c.args.server.now c.serving.server
    c.end_oldest.new.server (state c.args.listener.now) (state c.serving.listener)
    (state c.next_event.new.self) (state c.end_oldest.new.listener) c.args.hand.now
    c.serving.hand c.end_oldest.new.hand c.serving.invariant.working c.in-Err.ensures.state
    c.end_oldest.ensures.works c.end_oldest.ensures.still in
    (so.ts, so.works)
