use Rattle.std.proofs.Common.{refl, ap, ◌∙◌}
use Rattle.std.specs.Prelude.{Option}
use Rattle.line_base.specs.Lines.{Line}
use Rattle.line_base.specs.declared.socket_address.SocketAddress.{SocketAddress}
use Rattle.line_base.specs.Files.{Filed}
use Rattle.line_base.specs.Streams.{Output}
use Rattle.linker_commands.specs.Linked.{Linked, linked}
use Rattle.linker_commands.specs.Run.{no_memory}
use Rattle.linker_commands.specs.Courses.{load_course}
use Rattle.linker_commands.specs.Told.{code_of}
use Rattle.linker_commands.proofs.Runs.{tells_memory_first}
use Rattle.linker_commands.proofs.Courses.{unloaded_course}
use Rattle.linker_commands.proofs.Serving.{course_of_end}
use Rattle.machine.specs.Code.{settings_of}
use Rattle.linker_commands.proofs.serve.serve_by.Goals as goal

pub returns-in-Err-clause-served : goal.returns-in-Err-clause-served
returns-in-Err-clause-served g c = λ path right.
    let files : Filed = g.F.Folder.filed c.args.outside.now.folder in
    let files_after : Filed = g.F.Folder.filed c.load.new.folder in
    let net : Linked g.row.N-L-P.Denot =
    linked (g.N.Net.state c.args.outside.now.net) (g.N.Net.faults c.args.outside.now.net)
    (g.O.Journals.closed c.args.outside.now.journals) in
    let line_of = λ (p : g.row.N-L-P.Denot). let l : Line = g.N.L.P.Peer.line p in l in
    let address_of =
    λ (p : g.row.N-L-P.Denot). let a : Option SocketAddress = g.N.L.P.Peer.address p in a in
    let a = c.in-Err in (
      load_course a.fault,
      unloaded_course line_of address_of (g.C.Clock.of_fork c.args.outside.now.clock) path
          c.args.config files files_after net a.fault right a.ensures.loads a.ensures.cause,
      c.tell_load_fault.ensures,
    )

pub returns-in_default-clause-served : goal.returns-in_default-clause-served
returns-in_default-clause-served g c = λ path right.
    let old : Output = g.K.Sink.output c.args.outside.now.out in
    let new : Output = g.K.Sink.output c.tell.new.out in (
      no_memory,
      (c.in-Ok.ensures.cause.count, refl),
      tells_memory_first no_memory
          c.tell.result old new c.tell.ensures,
    )

pub returns-clause-served : goal.returns-clause-served
returns-clause-served g c = λ path right.
    let old_files : Filed = g.F.Folder.filed c.args.outside.now.folder in
    let new_files : Filed = g.F.Folder.filed c.serve_opened-status.new.outside.folder in
    let faults_of =
    λ (f : g.row.F.Denot). let filed : Filed = g.F.Folder.filed f in filed.faults in
    let old_net : Linked g.row.N-L-P.Denot =
    linked (g.N.Net.state c.args.outside.now.net) (g.N.Net.faults c.args.outside.now.net)
    (g.O.Journals.closed c.args.outside.now.journals) in
    let new_net : Linked g.row.N-L-P.Denot =
    linked (g.N.Net.state c.serve_opened-status.new.outside.net)
    (g.N.Net.faults c.serve_opened-status.new.outside.net)
    (g.O.Journals.closed c.serve_opened-status.new.outside.journals) in
    let line_of = λ (p : g.row.N-L-P.Denot). let l : Line = g.N.L.P.Peer.line p in l in
    let address_of =
    λ (p : g.row.N-L-P.Denot). let a : Option SocketAddress = g.N.L.P.Peer.address p in a in
    let old : Output = g.K.Sink.output c.args.outside.now.out in
    let new : Output = g.K.Sink.output c.serve_opened-status.new.outside.out in
    let made = c.site_and_settings-logged.ensures in
    course_of_end line_of address_of (g.C.Clock.of_fork c.args.outside.now.clock) path c.args.config
    old_files
    new_files old_net new_net old new (code_of c.serve_opened-status.result) right
    (ap faults_of c.serve_opened-status.ensures.kept.0 ∙ c.in-Ok.ensures.cause.count)
    (c.serve_opened-status.ensures.served (g.F.Folder.filed c.args.outside.now.folder).files
    c.args.config
    (record {
      site_is = made.site;
      settings_are = c.in-Ok-open.ensures.settings ∙ ap settings_of made.settings;
      loads = c.in-Ok.ensures.loads;
      path_is = made.log;
    }))

pub returns-clause-files : goal.returns-clause-files
returns-clause-files g c =
    let files_of = λ (f : g.row.F.Denot). let filed : Filed = g.F.Folder.filed f in filed.files in
    ap files_of c.serve_opened-status.ensures.kept.0 ∙ c.in-Ok.ensures.files

pub returns-clause-input : goal.returns-clause-input
returns-clause-input g c = c.serve_opened-status.ensures.kept.1
