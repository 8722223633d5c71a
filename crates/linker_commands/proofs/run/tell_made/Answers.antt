use Rattle.std.proofs.Common.{true, refl, inl, inr, ◌∙◌}
use Rattle.line_base.specs.Streams.{Output}
use Rattle.linker_commands.specs.Run.{line_told, no_memory}
use Rattle.linker_commands.specs.declared.run.ExitStatus.TheVariants as status
use Rattle.linker_commands.proofs.Runs.{tells_end, tells_memory_first}
use Rattle.linker_commands.proofs.run.tell_made.Goals as goal

pub returns-in-Ok : goal.returns-in-Ok
returns-in-Ok g c = λ line is.
    let old : Output = g.K.Sink.output c.args.out.now in
    let new : Output = g.K.Sink.output c.tell.new.out in
    let course = line_told true line in (
      course,
      inl refl,
      tells_end course c.as_slice.result.now status.Done c.tell.result old new
          (c.as_slice.ensures.value ∙ (rw c.in-Ok.is at is)) refl c.tell.ensures,
    )

pub returns-in-Err : goal.returns-in-Err
returns-in-Err g c = λ line is.
    let old : Output = g.K.Sink.output c.args.out.now in
    let new : Output = g.K.Sink.output c.tell-in-Err.new.out in (
      no_memory,
      inr refl,
      tells_memory_first no_memory c.tell-in-Err.result old new
          c.tell-in-Err.ensures,
    )
