use Rattle.std.proofs.Common.{List, ℕ, ◌||◌, false, refl, subst, ◌∙◌}
use Rattle.body_wire.specs.Passing.{IsFrontOf}
use Rattle.api_sessions.specs.Reading.{is_write_fault}
use Rattle.api_sessions.proofs.Turning.{delivered, end_writes, stays_at}
use Rattle.api_sessions.proofs.serving.deliver.Goals as goal

pub returns-in-Ok-clause-bytes : goal.returns-in-Ok-clause-bytes
returns-in-Ok-clause-bytes g c =
    let b = c.in-Ok.ensures.bytes in (
      b.0,
      c.args.reply.now.stops,
      b.1,
      c.stop_where.ensures,
      delivered c.args.head.now c.args.last c.args.reply.now b.0 c.end_behind.result
          (b.2 ∙ c.as_slice.ensures.value) c.asks_to_close.result c.asks_to_close.ensures
          c.end_behind.ensures,
    )

pub returns-in-Ok-clause-writes : goal.returns-in-Ok-clause-writes
returns-in-Ok-clause-writes g c =
    stays_at (is_write_fault c.end_behind.result) (g.P.Peer.line c.args.peer.now).write_faults
    (g.P.Peer.line c.write_all.new.peer).write_faults
    (end_writes (c.args.reply.now.stops || c.asks_to_close.result) c.args.last c.end_behind.result
    c.end_behind.ensures) c.in-Ok.ensures.cause.kept

pub returns-in-Err-clause-bytes : goal.returns-in-Err-clause-bytes
returns-in-Err-clause-bytes g c =
    let b = c.in-Err.ensures.bytes in (
      b.0,
      false,
      b.1,
      refl,
      (subst (λ (all : List ℕ). IsFrontOf all b.0) c.as_slice.ensures.value b.2, refl),
    )
