use Rattle.std.proofs.Common.{refl, ap, inl, false, Err, List, ℕ}
use Rattle.std.specs.Prelude.{Option}
use Rattle.line_base.specs.Lines.{Line}
use Rattle.line_base.specs.declared.socket_address.SocketAddress.{SocketAddress}
use Rattle.command_lines.specs.Check.{TellsPath}
use Rattle.line_base.specs.Files.{Filed}
use Rattle.line_base.specs.Streams.{Output}
use Rattle.linker_commands.specs.Linked.{Linked, linked}
use Rattle.linker_commands.specs.Run.{line_told, read_failed, no_memory}
use Rattle.linker_commands.specs.Told.{code_of}
use Rattle.linker_commands.specs.declared.run.ExitStatus.TheVariants as status
use Rattle.linker_commands.proofs.Runs.{tells_end, tells_memory_first}
use Rattle.linker_commands.proofs.Serving.{serves_from, wrong_told}
use Rattle.linker_commands.proofs.serve.serve.Goals as goal

pub returns-in-Ok-clause-served : goal.returns-in-Ok-clause-served
returns-in-Ok-clause-served g c =
    let old_files : Filed = g.F.Folder.filed c.args.outside.now.folder in
    let mid_files : Filed = g.F.Folder.filed c.configured.new.folder in
    let new_files : Filed = g.F.Folder.filed c.serve_by.new.outside.folder in
    let old_net : Linked g.row.N-L-P.Denot =
    linked (g.N.Net.state c.args.outside.now.net) (g.N.Net.faults c.args.outside.now.net)
    (g.O.Journals.closed c.args.outside.now.journals) in
    let new_net : Linked g.row.N-L-P.Denot =
    linked (g.N.Net.state c.serve_by.new.outside.net) (g.N.Net.faults c.serve_by.new.outside.net)
    (g.O.Journals.closed c.serve_by.new.outside.journals) in
    let line_of = λ (p : g.row.N-L-P.Denot). let l : Line = g.N.L.P.Peer.line p in l in
    let address_of =
    λ (p : g.row.N-L-P.Denot). let a : Option SocketAddress = g.N.L.P.Peer.address p in a in
    let old : Output = g.K.Sink.output c.args.outside.now.out in
    let new : Output = g.K.Sink.output c.serve_by.new.outside.out in
    let e = c.in-Ok.ensures in
    serves_from line_of address_of (g.C.Clock.of_fork c.args.outside.now.clock) c.args.path.now
    c.in-Ok.config
    old_files mid_files new_files old_net new_net old new (code_of c.serve_by.result) e.files
    (e.kept (λ is. cc is)) e.config c.serve_by.ensures.served

pub returns-in-Err-Wrong-clause-served : goal.returns-in-Err-Wrong-clause-served
returns-in-Err-Wrong-clause-served g c =
    let old : Output = g.K.Sink.output c.args.outside.now.out in
    let new : Output = g.K.Sink.output c.tell.new.out in
    let a = c.in-Err-Wrong in
    let is : List ℕ → Type 0 =
    λ line. TellsPath (g.F.Folder.filed c.args.outside.now.folder).files c.args.path.now false
    line in
    let course = line_told false a.line.items in (
      course,
      (
        inl (wrong_told a.field-0 a.line is a.field-0-is a.ensures.wrong),
        a.ensures.kept
            (λ same. cc (same, a.field-0-is)),
        refl,
      ),
      tells_end course c.as_slice.result.now status.Wrong c.tell.result old new
          (rw c.in-Err-Wrong.field-0-is at c.as_slice.ensures.value) refl c.tell.ensures,
    )

pub returns-in-Err-Fault-clause-served : goal.returns-in-Err-Fault-clause-served
returns-in-Err-Fault-clause-served g c =
    let old : Output = g.K.Sink.output c.args.outside.now.out in
    let new : Output = g.K.Sink.output c.tell-in-Err-Fault.new.out in
    let a = c.in-Err-Fault in (
      read_failed,
      (a.ensures.fault (ap Err a.field-0-is), refl),
      tells_end read_failed _ status.Read
          c.tell-in-Err-Fault.result old new refl refl c.tell-in-Err-Fault.ensures,
    )

pub returns-in-Err-OutOfMemory-clause-served : goal.returns-in-Err-OutOfMemory-clause-served
returns-in-Err-OutOfMemory-clause-served g c =
    let old : Output = g.K.Sink.output c.args.outside.now.out in
    let new : Output = g.K.Sink.output c.tell-in-Err-OutOfMemory.new.out in
    let a = c.in-Err-OutOfMemory in (
      no_memory,
      (a.ensures.kept (λ same. cc (same, a.field-0-is)), refl),
      tells_memory_first
          no_memory c.tell-in-Err-OutOfMemory.result old new c.tell-in-Err-OutOfMemory.ensures,
    )
