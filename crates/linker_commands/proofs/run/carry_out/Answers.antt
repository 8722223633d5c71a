use Rattle.std.proofs.Common.{refl, inl, inr}
use Rattle.line_base.specs.Streams.{Output}
use Rattle.linker_commands.specs.Run.{script_read}
use Rattle.linker_commands.proofs.Runs.{tells_memory}
use Rattle.linker_commands.proofs.run.carry_out.Goals as goal

pub returns-in-WriteFault : goal.returns-in-WriteFault
returns-in-WriteFault g c =
    let e = c.in-WriteFault.ensures in inr (inr (refl, e.cause refl, _, inl refl, e.played))

pub returns-in-OutOfMemory : goal.returns-in-OutOfMemory
returns-in-OutOfMemory g c =
    let old : Output = g.K.Sink.output c.args.out.now in
    let mid : Output = g.K.Sink.output c.play.new.sink in
    let new : Output = g.K.Sink.output c.tell.new.out in
    let e = c.in-OutOfMemory.ensures in
    tells_memory (script_read c.args.script.now) c.tell.result old mid new e.played.0 e.played.1
    e.played.2 e.played.3 (e.kept (λ is. cc is)) e.played.4 c.tell.ensures
