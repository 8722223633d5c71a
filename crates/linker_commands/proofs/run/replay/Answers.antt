use Rattle.std.proofs.Common.{refl, ap, Err}
use Rattle.line_base.specs.Streams.{Output}
use Rattle.linker_commands.specs.Run.{read_failed, too_long, no_memory}
use Rattle.linker_commands.specs.declared.run.ExitStatus.TheVariants as status
use Rattle.linker_commands.proofs.Runs.{tells_end, tells_memory_first}
use Rattle.linker_commands.proofs.run.replay.Goals as goal

pub returns-in-Err-Fault : goal.returns-in-Err-Fault
returns-in-Err-Fault g c =
    let old : Output = g.K.Sink.output c.args.out.now in
    let new : Output = g.K.Sink.output c.tell.new.out in
    let e = c.in-Err-Fault.ensures in (
      read_failed,
      (
        e.fault (ap Err c.in-Err-Fault.field-0-is),
        e.few
            (λ is. cc (is, c.in-Err-Fault.field-0-is)),
      ),
      tells_end read_failed _ status.Read
          c.tell.result old new refl refl c.tell.ensures,
    )

pub returns-in-Err-Long : goal.returns-in-Err-Long
returns-in-Err-Long g c =
    let old : Output = g.K.Sink.output c.args.out.now in
    let new : Output = g.K.Sink.output c.tell-in-Err-Long.new.out in
    let e = c.in-Err-Long.ensures in (
      too_long,
      (
        e.long (ap Err c.in-Err-Long.field-0-is),
        e.kept
            (λ is. cc (is, c.in-Err-Long.field-0-is)),
      ),
      tells_end too_long _ status.Long
          c.tell-in-Err-Long.result old new refl refl c.tell-in-Err-Long.ensures,
    )

pub returns-in-Err-OutOfMemory : goal.returns-in-Err-OutOfMemory
returns-in-Err-OutOfMemory g c =
    let old : Output = g.K.Sink.output c.args.out.now in
    let new : Output = g.K.Sink.output c.tell-in-Err-OutOfMemory.new.out in
    let e = c.in-Err-OutOfMemory.ensures in (
      no_memory,
      (
        e.few (λ is. cc (is, c.in-Err-OutOfMemory.field-0-is)),
        e.kept
            (λ is. cc (is, c.in-Err-OutOfMemory.field-0-is)),
      ),
      tells_memory_first no_memory
          c.tell-in-Err-OutOfMemory.result old new c.tell-in-Err-OutOfMemory.ensures,
    )
