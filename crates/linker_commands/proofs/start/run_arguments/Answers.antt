use Rattle.std.proofs.Common.{sym, subst}
use Rattle.std.specs.Prelude.{Option}
use Rattle.line_base.specs.Lines.{Line}
use Rattle.line_base.specs.declared.socket_address.SocketAddress.{SocketAddress}
use Rattle.line_base.specs.Files.{Filed}
use Rattle.line_base.specs.Streams.{Input, Output}
use Rattle.linker_commands.specs.Linked.{Linked, linked}
use Rattle.linker_commands.specs.Run.{Ran, words_of}
use Rattle.linker_commands.proofs.start.run_arguments.Goals as goal

pub returns-clause-ran : goal.returns-clause-ran
returns-clause-ran g c =
    let old_in : Input = g.S.Source.input c.args.outside.now.input in
    let new_in : Input = g.S.Source.input c.status_for-status.new.outside.input in
    let old_files : Filed = g.F.Folder.filed c.args.outside.now.folder in
    let new_files : Filed = g.F.Folder.filed c.status_for-status.new.outside.folder in
    let old_net : Linked g.row.N-L-P.Denot =
    linked (g.N.Net.state c.args.outside.now.net) (g.N.Net.faults c.args.outside.now.net)
    (g.O.Journals.closed c.args.outside.now.journals) in
    let line_of = λ (p : g.row.N-L-P.Denot). let l : Line = g.N.L.P.Peer.line p in l in
    let address_of =
    λ (p : g.row.N-L-P.Denot). let a : Option SocketAddress = g.N.L.P.Peer.address p in a in
    let new_net : Linked g.row.N-L-P.Denot =
    linked (g.N.Net.state c.status_for-status.new.outside.net)
    (g.N.Net.faults c.status_for-status.new.outside.net)
    (g.O.Journals.closed c.status_for-status.new.outside.journals) in
    let old_out : Output = g.K.Sink.output c.args.outside.now.out in
    let new_out : Output = g.K.Sink.output c.status_for-status.new.outside.out in
    subst (Ran line_of address_of (g.C.Clock.of_fork c.args.outside.now.clock)
    (words_of c.args.arguments)
    old_in
    new_in old_files new_files old_net new_net old_out new_out) (sym c.from.ensures)
    c.status_for-status.ensures
