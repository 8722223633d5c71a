use Rattle.std.proofs.Common.{false, refl, ◌∙◌}
use Rattle.line_base.specs.Streams.{Output}
use Rattle.linker_commands.specs.Run.{line_told}
use Rattle.linker_commands.specs.Served.{file_line}
use Rattle.linker_commands.specs.declared.run.ExitStatus.TheVariants as status
use Rattle.linker_commands.proofs.Runs.{tells_end, tells_memory_first}
use Rattle.linker_commands.proofs.serve.tell_file.Goals as goal

pub returns-in-Ok : goal.returns-in-Ok
returns-in-Ok g c =
    let old : Output = g.K.Sink.output c.args.out.now in
    let new : Output = g.K.Sink.output c.tell.new.out in
    tells_end (line_told false (file_line c.args.name.now)) c.as_slice.result.now status.Wrong
    c.tell.result old new (c.as_slice.ensures.value ∙ c.in-Ok.ensures) refl c.tell.ensures

pub returns-in-Err : goal.returns-in-Err
returns-in-Err g c =
    let old : Output = g.K.Sink.output c.args.out.now in
    let new : Output = g.K.Sink.output c.tell-in-Err.new.out in
    tells_memory_first (line_told false (file_line c.args.name.now)) c.tell-in-Err.result old new
    c.tell-in-Err.ensures
