use Rattle.std.proofs.Common.{◌≡◌, ap, refl, subst, sym, ◌∙◌}
use Rattle.std.specs.Prelude.{Result, Err}
use Rattle.line_base.specs.Streams.{Output}
use Rattle.command_lines.specs.declared.checking.CheckEnd.{CheckEnd}
use Rattle.command_lines.specs.declared.checking.CheckEnd.TheVariants as why
use Rattle.command_lines.specs.declared.checking.Verdict.{Verdict}
use Rattle.linker_commands.specs.Run.{EndsCourse, line_told, read_failed, no_memory}
use Rattle.linker_commands.specs.Courses.{verdict_course}
use Rattle.linker_commands.specs.Told.{code_of}
use Rattle.linker_commands.specs.declared.run.ExitStatus.TheVariants as status
use Rattle.linker_commands.proofs.Runs.{tells_end, tells_memory_first}
use Rattle.linker_commands.proofs.run.tell_verdict.Goals as goal

pub returns-in-Ok : goal.returns-in-Ok
returns-in-Ok g c =
    let old : Output = g.K.Sink.output c.args.out.now in
    let new : Output = g.K.Sink.output c.tell.new.out in
    let v = c.in-Ok.told in
    subst (λ (r : Result Verdict CheckEnd). EndsCourse (verdict_course r) old new
    (code_of c.tell.result)) (sym c.in-Ok.is)
    (tells_end (line_told v.is_right v.line.items) c.as_slice.result.now c.of_right.result
    c.tell.result old new c.as_slice.ensures.value c.of_right.ensures c.tell.ensures)

pub returns-in-Err-Fault : goal.returns-in-Err-Fault
returns-in-Err-Fault g c =
    let old : Output = g.K.Sink.output c.args.out.now in
    let new : Output = g.K.Sink.output c.tell-in-Err-Fault.new.out in
    let fault : c.in-Err-Fault.field-0 ≡ why.Fault =
    rw c.in-Err-Fault.is at c.in-Err-Fault.field-0-is in
    subst (λ (r : Result Verdict CheckEnd). EndsCourse (verdict_course r) old new
    (code_of c.tell-in-Err-Fault.result)) (sym (c.in-Err-Fault.is ∙ ap Err fault))
    (tells_end read_failed _ status.Read c.tell-in-Err-Fault.result old new refl refl
    c.tell-in-Err-Fault.ensures)

pub returns-in-Err-OutOfMemory : goal.returns-in-Err-OutOfMemory
returns-in-Err-OutOfMemory g c =
    let old : Output = g.K.Sink.output c.args.out.now in
    let new : Output = g.K.Sink.output c.tell-in-Err-OutOfMemory.new.out in
    let fault : c.in-Err-OutOfMemory.field-0 ≡ why.OutOfMemory =
    rw c.in-Err-OutOfMemory.is at c.in-Err-OutOfMemory.field-0-is in
    subst (λ (r : Result Verdict CheckEnd). EndsCourse (verdict_course r) old new
    (code_of c.tell-in-Err-OutOfMemory.result)) (sym (c.in-Err-OutOfMemory.is ∙ ap Err fault))
    (tells_memory_first no_memory c.tell-in-Err-OutOfMemory.result old new
    c.tell-in-Err-OutOfMemory.ensures)
