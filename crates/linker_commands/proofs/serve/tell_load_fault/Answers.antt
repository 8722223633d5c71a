use Rattle.std.proofs.Common.{refl, sym, subst}
use Rattle.line_base.specs.Streams.{Output}
use Rattle.linker_config.specs.declared.loaded.LoadFault.{LoadFault}
use Rattle.linker_commands.specs.Run.{EndsCourse, no_memory, read_failed}
use Rattle.linker_commands.specs.Courses.{load_course}
use Rattle.linker_commands.specs.Told.{code_of}
use Rattle.linker_commands.specs.declared.run.ExitStatus.TheVariants as status
use Rattle.linker_commands.proofs.Runs.{tells_end, tells_memory_first}
use Rattle.linker_commands.proofs.serve.tell_load_fault.Goals as goal

pub returns-in-LongFile : goal.returns-in-LongFile
returns-in-LongFile g c =
    let old : Output = g.K.Sink.output c.args.out.now in
    let new : Output = g.K.Sink.output c.tell_file.new.out in
    subst (λ (f : LoadFault). EndsCourse (load_course f) old new (code_of c.tell_file.result))
    (sym c.in-LongFile.is) c.tell_file.ensures

pub returns-in-BadFile : goal.returns-in-BadFile
returns-in-BadFile g c =
    let old : Output = g.K.Sink.output c.args.out.now in
    let new : Output = g.K.Sink.output c.tell_file-in-BadFile.new.out in
    subst (λ (f : LoadFault). EndsCourse (load_course f) old new
    (code_of c.tell_file-in-BadFile.result)) (sym c.in-BadFile.is) c.tell_file-in-BadFile.ensures

pub returns-in-FolderFault : goal.returns-in-FolderFault
returns-in-FolderFault g c =
    let old : Output = g.K.Sink.output c.args.out.now in
    let new : Output = g.K.Sink.output c.tell.new.out in
    subst (λ (f : LoadFault). EndsCourse (load_course f) old new (code_of c.tell.result))
    (sym c.in-FolderFault.is)
    (tells_end read_failed _ status.Read c.tell.result old new refl refl c.tell.ensures)

pub returns-in-OutOfMemory : goal.returns-in-OutOfMemory
returns-in-OutOfMemory g c =
    let old : Output = g.K.Sink.output c.args.out.now in
    let new : Output = g.K.Sink.output c.tell-in-OutOfMemory.new.out in
    subst (λ (f : LoadFault). EndsCourse (load_course f) old new
    (code_of c.tell-in-OutOfMemory.result)) (sym c.in-OutOfMemory.is)
    (tells_memory_first no_memory c.tell-in-OutOfMemory.result old new
    c.tell-in-OutOfMemory.ensures)
