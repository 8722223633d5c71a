use Rattle.std.proofs.Common.{map, sym, subst, true, false}
use Rattle.std.specs.Prelude.{string_bytes}
use Rattle.std.specs.Prelude.{Option}
use Rattle.line_base.specs.Lines.{Line}
use Rattle.line_base.specs.declared.socket_address.SocketAddress.{SocketAddress}
use Rattle.line_base.specs.Files.{Filed}
use Rattle.line_base.specs.Streams.{Input, Output}
use Rattle.linker_commands.specs.Linked.{Linked, linked}
use Rattle.linker_commands.specs.Run.{Ran}
use Rattle.linker_commands.proofs.Causes.{back_cause, long_cause, known_status, net_cause}
use Rattle.linker_commands.proofs.Causes.{refused_cause, shown_cause, read_cause, folder_cause}
use Rattle.linker_commands.proofs.Causes.{write_cause, net_fault_cause, words_due, read_due}
use Rattle.linker_commands.proofs.Causes.{long_due}
use Rattle.linker_commands.proofs.program.linker.Goals as goal

pub returns-clause-longer : goal.returns-clause-longer
returns-clause-longer g c =
    let old_in : Input = g.S.Source.input c.args.outside.now.input in
    let new_in : Input = g.S.Source.input c.run.new.outside.input in
    let old_files : Filed = g.F.Folder.filed c.args.outside.now.folder in
    let new_files : Filed = g.F.Folder.filed c.run.new.outside.folder in
    let old_net : Linked g.row.N-L-P.Denot =
    linked (g.N.Net.state c.args.outside.now.net) (g.N.Net.faults c.args.outside.now.net)
    (g.O.Journals.closed c.args.outside.now.journals) in
    let new_net : Linked g.row.N-L-P.Denot =
    linked (g.N.Net.state c.run.new.outside.net) (g.N.Net.faults c.run.new.outside.net)
    (g.O.Journals.closed c.run.new.outside.journals) in
    let line_of = λ (p : g.row.N-L-P.Denot). let l : Line = g.N.L.P.Peer.line p in l in
    let address_of =
    λ (p : g.row.N-L-P.Denot). let a : Option SocketAddress = g.N.L.P.Peer.address p in a in
    let old_out : Output = g.K.Sink.output c.args.outside.now.out in
    let new_out : Output = g.K.Sink.output c.run.new.outside.out in
    long_cause line_of address_of (g.C.Clock.of_fork c.args.outside.now.clock)
    (map string_bytes c.args.words.now)
    old_in new_in old_files new_files old_net new_net old_out new_out c.code.result
    (rw (← c.code.ensures) at c.run.ensures)

pub returns-clause-status : goal.returns-clause-status
returns-clause-status g c =
    let old_in : Input = g.S.Source.input c.args.outside.now.input in
    let new_in : Input = g.S.Source.input c.run.new.outside.input in
    let old_files : Filed = g.F.Folder.filed c.args.outside.now.folder in
    let new_files : Filed = g.F.Folder.filed c.run.new.outside.folder in
    let old_net : Linked g.row.N-L-P.Denot =
    linked (g.N.Net.state c.args.outside.now.net) (g.N.Net.faults c.args.outside.now.net)
    (g.O.Journals.closed c.args.outside.now.journals) in
    let new_net : Linked g.row.N-L-P.Denot =
    linked (g.N.Net.state c.run.new.outside.net) (g.N.Net.faults c.run.new.outside.net)
    (g.O.Journals.closed c.run.new.outside.journals) in
    let line_of = λ (p : g.row.N-L-P.Denot). let l : Line = g.N.L.P.Peer.line p in l in
    let address_of =
    λ (p : g.row.N-L-P.Denot). let a : Option SocketAddress = g.N.L.P.Peer.address p in a in
    let old_out : Output = g.K.Sink.output c.args.outside.now.out in
    let new_out : Output = g.K.Sink.output c.run.new.outside.out in
    known_status line_of address_of (g.C.Clock.of_fork c.args.outside.now.clock)
    (map string_bytes c.args.words.now)
    old_in new_in old_files new_files old_net new_net old_out new_out c.code.result
    (rw (← c.code.ensures) at c.run.ensures)

pub returns-clause-read_fault : goal.returns-clause-read_fault
returns-clause-read_fault g c =
    let old_in : Input = g.S.Source.input c.args.outside.now.input in
    let new_in : Input = g.S.Source.input c.run.new.outside.input in
    let old_files : Filed = g.F.Folder.filed c.args.outside.now.folder in
    let new_files : Filed = g.F.Folder.filed c.run.new.outside.folder in
    let old_net : Linked g.row.N-L-P.Denot =
    linked (g.N.Net.state c.args.outside.now.net) (g.N.Net.faults c.args.outside.now.net)
    (g.O.Journals.closed c.args.outside.now.journals) in
    let new_net : Linked g.row.N-L-P.Denot =
    linked (g.N.Net.state c.run.new.outside.net) (g.N.Net.faults c.run.new.outside.net)
    (g.O.Journals.closed c.run.new.outside.journals) in
    let line_of = λ (p : g.row.N-L-P.Denot). let l : Line = g.N.L.P.Peer.line p in l in
    let address_of =
    λ (p : g.row.N-L-P.Denot). let a : Option SocketAddress = g.N.L.P.Peer.address p in a in
    let old_out : Output = g.K.Sink.output c.args.outside.now.out in
    let new_out : Output = g.K.Sink.output c.run.new.outside.out in
    read_cause line_of address_of (g.C.Clock.of_fork c.args.outside.now.clock)
    (map string_bytes c.args.words.now)
    old_in new_in old_files new_files old_net new_net old_out new_out c.code.result
    (rw (← c.code.ensures) at c.run.ensures)

pub returns-clause-folder_fault : goal.returns-clause-folder_fault
returns-clause-folder_fault g c =
    let old_in : Input = g.S.Source.input c.args.outside.now.input in
    let new_in : Input = g.S.Source.input c.run.new.outside.input in
    let old_files : Filed = g.F.Folder.filed c.args.outside.now.folder in
    let new_files : Filed = g.F.Folder.filed c.run.new.outside.folder in
    let old_net : Linked g.row.N-L-P.Denot =
    linked (g.N.Net.state c.args.outside.now.net) (g.N.Net.faults c.args.outside.now.net)
    (g.O.Journals.closed c.args.outside.now.journals) in
    let new_net : Linked g.row.N-L-P.Denot =
    linked (g.N.Net.state c.run.new.outside.net) (g.N.Net.faults c.run.new.outside.net)
    (g.O.Journals.closed c.run.new.outside.journals) in
    let line_of = λ (p : g.row.N-L-P.Denot). let l : Line = g.N.L.P.Peer.line p in l in
    let address_of =
    λ (p : g.row.N-L-P.Denot). let a : Option SocketAddress = g.N.L.P.Peer.address p in a in
    let old_out : Output = g.K.Sink.output c.args.outside.now.out in
    let new_out : Output = g.K.Sink.output c.run.new.outside.out in
    folder_cause line_of address_of (g.C.Clock.of_fork c.args.outside.now.clock)
    (map string_bytes c.args.words.now)
    old_in new_in old_files new_files old_net new_net old_out new_out c.code.result
    (rw (← c.code.ensures) at c.run.ensures)

pub returns-clause-write_fault : goal.returns-clause-write_fault
returns-clause-write_fault g c =
    let old_in : Input = g.S.Source.input c.args.outside.now.input in
    let new_in : Input = g.S.Source.input c.run.new.outside.input in
    let old_files : Filed = g.F.Folder.filed c.args.outside.now.folder in
    let new_files : Filed = g.F.Folder.filed c.run.new.outside.folder in
    let old_net : Linked g.row.N-L-P.Denot =
    linked (g.N.Net.state c.args.outside.now.net) (g.N.Net.faults c.args.outside.now.net)
    (g.O.Journals.closed c.args.outside.now.journals) in
    let new_net : Linked g.row.N-L-P.Denot =
    linked (g.N.Net.state c.run.new.outside.net) (g.N.Net.faults c.run.new.outside.net)
    (g.O.Journals.closed c.run.new.outside.journals) in
    let line_of = λ (p : g.row.N-L-P.Denot). let l : Line = g.N.L.P.Peer.line p in l in
    let address_of =
    λ (p : g.row.N-L-P.Denot). let a : Option SocketAddress = g.N.L.P.Peer.address p in a in
    let old_out : Output = g.K.Sink.output c.args.outside.now.out in
    let new_out : Output = g.K.Sink.output c.run.new.outside.out in
    write_cause line_of address_of (g.C.Clock.of_fork c.args.outside.now.clock)
    (map string_bytes c.args.words.now)
    old_in new_in old_files new_files old_net new_net old_out new_out c.code.result
    (rw (← c.code.ensures) at c.run.ensures)

pub returns-clause-net_fault : goal.returns-clause-net_fault
returns-clause-net_fault g c =
    let old_in : Input = g.S.Source.input c.args.outside.now.input in
    let new_in : Input = g.S.Source.input c.run.new.outside.input in
    let old_files : Filed = g.F.Folder.filed c.args.outside.now.folder in
    let new_files : Filed = g.F.Folder.filed c.run.new.outside.folder in
    let old_net : Linked g.row.N-L-P.Denot =
    linked (g.N.Net.state c.args.outside.now.net) (g.N.Net.faults c.args.outside.now.net)
    (g.O.Journals.closed c.args.outside.now.journals) in
    let new_net : Linked g.row.N-L-P.Denot =
    linked (g.N.Net.state c.run.new.outside.net) (g.N.Net.faults c.run.new.outside.net)
    (g.O.Journals.closed c.run.new.outside.journals) in
    let line_of = λ (p : g.row.N-L-P.Denot). let l : Line = g.N.L.P.Peer.line p in l in
    let address_of =
    λ (p : g.row.N-L-P.Denot). let a : Option SocketAddress = g.N.L.P.Peer.address p in a in
    let old_out : Output = g.K.Sink.output c.args.outside.now.out in
    let new_out : Output = g.K.Sink.output c.run.new.outside.out in
    net_fault_cause line_of address_of (g.C.Clock.of_fork c.args.outside.now.clock)
    (map string_bytes c.args.words.now)
    old_in new_in old_files new_files old_net new_net old_out new_out c.code.result
    (rw (← c.code.ensures) at c.run.ensures)

pub returns-clause-ran : goal.returns-clause-ran
returns-clause-ran g c =
    let old_in : Input = g.S.Source.input c.args.outside.now.input in
    let new_in : Input = g.S.Source.input c.run.new.outside.input in
    let old_files : Filed = g.F.Folder.filed c.args.outside.now.folder in
    let new_files : Filed = g.F.Folder.filed c.run.new.outside.folder in
    let old_net : Linked g.row.N-L-P.Denot =
    linked (g.N.Net.state c.args.outside.now.net) (g.N.Net.faults c.args.outside.now.net)
    (g.O.Journals.closed c.args.outside.now.journals) in
    let new_net : Linked g.row.N-L-P.Denot =
    linked (g.N.Net.state c.run.new.outside.net) (g.N.Net.faults c.run.new.outside.net)
    (g.O.Journals.closed c.run.new.outside.journals) in
    let line_of = λ (p : g.row.N-L-P.Denot). let l : Line = g.N.L.P.Peer.line p in l in
    let address_of =
    λ (p : g.row.N-L-P.Denot). let a : Option SocketAddress = g.N.L.P.Peer.address p in a in
    let old_out : Output = g.K.Sink.output c.args.outside.now.out in
    let new_out : Output = g.K.Sink.output c.run.new.outside.out in
    subst (Ran line_of address_of (g.C.Clock.of_fork c.args.outside.now.clock)
    (map string_bytes c.args.words.now)
    old_in new_in old_files new_files old_net new_net old_out new_out) (sym c.code.ensures)
    c.run.ensures

pub returns-clause-refused : goal.returns-clause-refused
returns-clause-refused g c =
    let old_in : Input = g.S.Source.input c.args.outside.now.input in
    let new_in : Input = g.S.Source.input c.run.new.outside.input in
    let old_files : Filed = g.F.Folder.filed c.args.outside.now.folder in
    let new_files : Filed = g.F.Folder.filed c.run.new.outside.folder in
    let old_net : Linked g.row.N-L-P.Denot =
    linked (g.N.Net.state c.args.outside.now.net) (g.N.Net.faults c.args.outside.now.net)
    (g.O.Journals.closed c.args.outside.now.journals) in
    let new_net : Linked g.row.N-L-P.Denot =
    linked (g.N.Net.state c.run.new.outside.net) (g.N.Net.faults c.run.new.outside.net)
    (g.O.Journals.closed c.run.new.outside.journals) in
    let line_of = λ (p : g.row.N-L-P.Denot). let l : Line = g.N.L.P.Peer.line p in l in
    let address_of =
    λ (p : g.row.N-L-P.Denot). let a : Option SocketAddress = g.N.L.P.Peer.address p in a in
    let old_out : Output = g.K.Sink.output c.args.outside.now.out in
    let new_out : Output = g.K.Sink.output c.run.new.outside.out in
    refused_cause line_of address_of (g.C.Clock.of_fork c.args.outside.now.clock)
    (map string_bytes c.args.words.now)
    old_in new_in old_files new_files old_net new_net old_out new_out c.code.result
    (rw (← c.code.ensures) at c.run.ensures)

pub returns-clause-done : goal.returns-clause-done
returns-clause-done g c =
    let old_in : Input = g.S.Source.input c.args.outside.now.input in
    let new_in : Input = g.S.Source.input c.run.new.outside.input in
    let old_files : Filed = g.F.Folder.filed c.args.outside.now.folder in
    let new_files : Filed = g.F.Folder.filed c.run.new.outside.folder in
    let old_net : Linked g.row.N-L-P.Denot =
    linked (g.N.Net.state c.args.outside.now.net) (g.N.Net.faults c.args.outside.now.net)
    (g.O.Journals.closed c.args.outside.now.journals) in
    let new_net : Linked g.row.N-L-P.Denot =
    linked (g.N.Net.state c.run.new.outside.net) (g.N.Net.faults c.run.new.outside.net)
    (g.O.Journals.closed c.run.new.outside.journals) in
    let line_of = λ (p : g.row.N-L-P.Denot). let l : Line = g.N.L.P.Peer.line p in l in
    let address_of =
    λ (p : g.row.N-L-P.Denot). let a : Option SocketAddress = g.N.L.P.Peer.address p in a in
    let old_out : Output = g.K.Sink.output c.args.outside.now.out in
    let new_out : Output = g.K.Sink.output c.run.new.outside.out in
    shown_cause line_of address_of (g.C.Clock.of_fork c.args.outside.now.clock)
    (map string_bytes c.args.words.now)
    old_in new_in old_files new_files old_net new_net old_out new_out c.code.result
    (rw (← c.code.ensures) at c.run.ensures) true

pub returns-clause-wrong : goal.returns-clause-wrong
returns-clause-wrong g c =
    let old_in : Input = g.S.Source.input c.args.outside.now.input in
    let new_in : Input = g.S.Source.input c.run.new.outside.input in
    let old_files : Filed = g.F.Folder.filed c.args.outside.now.folder in
    let new_files : Filed = g.F.Folder.filed c.run.new.outside.folder in
    let old_net : Linked g.row.N-L-P.Denot =
    linked (g.N.Net.state c.args.outside.now.net) (g.N.Net.faults c.args.outside.now.net)
    (g.O.Journals.closed c.args.outside.now.journals) in
    let new_net : Linked g.row.N-L-P.Denot =
    linked (g.N.Net.state c.run.new.outside.net) (g.N.Net.faults c.run.new.outside.net)
    (g.O.Journals.closed c.run.new.outside.journals) in
    let line_of = λ (p : g.row.N-L-P.Denot). let l : Line = g.N.L.P.Peer.line p in l in
    let address_of =
    λ (p : g.row.N-L-P.Denot). let a : Option SocketAddress = g.N.L.P.Peer.address p in a in
    let old_out : Output = g.K.Sink.output c.args.outside.now.out in
    let new_out : Output = g.K.Sink.output c.run.new.outside.out in
    shown_cause line_of address_of (g.C.Clock.of_fork c.args.outside.now.clock)
    (map string_bytes c.args.words.now)
    old_in new_in old_files new_files old_net new_net old_out new_out c.code.result
    (rw (← c.code.ensures) at c.run.ensures) false

pub returns-clause-net : goal.returns-clause-net
returns-clause-net g c =
    let old_in : Input = g.S.Source.input c.args.outside.now.input in
    let new_in : Input = g.S.Source.input c.run.new.outside.input in
    let old_files : Filed = g.F.Folder.filed c.args.outside.now.folder in
    let new_files : Filed = g.F.Folder.filed c.run.new.outside.folder in
    let old_net : Linked g.row.N-L-P.Denot =
    linked (g.N.Net.state c.args.outside.now.net) (g.N.Net.faults c.args.outside.now.net)
    (g.O.Journals.closed c.args.outside.now.journals) in
    let new_net : Linked g.row.N-L-P.Denot =
    linked (g.N.Net.state c.run.new.outside.net) (g.N.Net.faults c.run.new.outside.net)
    (g.O.Journals.closed c.run.new.outside.journals) in
    let line_of = λ (p : g.row.N-L-P.Denot). let l : Line = g.N.L.P.Peer.line p in l in
    let address_of =
    λ (p : g.row.N-L-P.Denot). let a : Option SocketAddress = g.N.L.P.Peer.address p in a in
    let old_out : Output = g.K.Sink.output c.args.outside.now.out in
    let new_out : Output = g.K.Sink.output c.run.new.outside.out in
    net_cause line_of address_of (g.C.Clock.of_fork c.args.outside.now.clock)
    (map string_bytes c.args.words.now)
    old_in new_in old_files new_files old_net new_net old_out new_out c.code.result
    (rw (← c.code.ensures) at c.run.ensures)

pub returns-clause-all_back : goal.returns-clause-all_back
returns-clause-all_back g c =
    let old_in : Input = g.S.Source.input c.args.outside.now.input in
    let new_in : Input = g.S.Source.input c.run.new.outside.input in
    let old_files : Filed = g.F.Folder.filed c.args.outside.now.folder in
    let new_files : Filed = g.F.Folder.filed c.run.new.outside.folder in
    let old_net : Linked g.row.N-L-P.Denot =
    linked (g.N.Net.state c.args.outside.now.net) (g.N.Net.faults c.args.outside.now.net)
    (g.O.Journals.closed c.args.outside.now.journals) in
    let new_net : Linked g.row.N-L-P.Denot =
    linked (g.N.Net.state c.run.new.outside.net) (g.N.Net.faults c.run.new.outside.net)
    (g.O.Journals.closed c.run.new.outside.journals) in
    let line_of = λ (p : g.row.N-L-P.Denot). let l : Line = g.N.L.P.Peer.line p in l in
    let address_of =
    λ (p : g.row.N-L-P.Denot). let a : Option SocketAddress = g.N.L.P.Peer.address p in a in
    let old_out : Output = g.K.Sink.output c.args.outside.now.out in
    let new_out : Output = g.K.Sink.output c.run.new.outside.out in
    back_cause line_of address_of (g.C.Clock.of_fork c.args.outside.now.clock)
    (map string_bytes c.args.words.now)
    old_in new_in old_files new_files old_net new_net old_out new_out c.code.result
    (rw (← c.code.ensures) at c.run.ensures)

pub returns-clause-words : goal.returns-clause-words
returns-clause-words g c =
    let old_in : Input = g.S.Source.input c.args.outside.now.input in
    let new_in : Input = g.S.Source.input c.run.new.outside.input in
    let old_files : Filed = g.F.Folder.filed c.args.outside.now.folder in
    let new_files : Filed = g.F.Folder.filed c.run.new.outside.folder in
    let old_net : Linked g.row.N-L-P.Denot =
    linked (g.N.Net.state c.args.outside.now.net) (g.N.Net.faults c.args.outside.now.net)
    (g.O.Journals.closed c.args.outside.now.journals) in
    let new_net : Linked g.row.N-L-P.Denot =
    linked (g.N.Net.state c.run.new.outside.net) (g.N.Net.faults c.run.new.outside.net)
    (g.O.Journals.closed c.run.new.outside.journals) in
    let line_of = λ (p : g.row.N-L-P.Denot). let l : Line = g.N.L.P.Peer.line p in l in
    let address_of =
    λ (p : g.row.N-L-P.Denot). let a : Option SocketAddress = g.N.L.P.Peer.address p in a in
    let old_out : Output = g.K.Sink.output c.args.outside.now.out in
    let new_out : Output = g.K.Sink.output c.run.new.outside.out in
    words_due line_of address_of (g.C.Clock.of_fork c.args.outside.now.clock)
    (map string_bytes c.args.words.now)
    old_in new_in old_files new_files old_net new_net old_out new_out c.code.result
    (rw (← c.code.ensures) at c.run.ensures)

pub returns-clause-read : goal.returns-clause-read
returns-clause-read g c =
    let old_in : Input = g.S.Source.input c.args.outside.now.input in
    let new_in : Input = g.S.Source.input c.run.new.outside.input in
    let old_files : Filed = g.F.Folder.filed c.args.outside.now.folder in
    let new_files : Filed = g.F.Folder.filed c.run.new.outside.folder in
    let old_net : Linked g.row.N-L-P.Denot =
    linked (g.N.Net.state c.args.outside.now.net) (g.N.Net.faults c.args.outside.now.net)
    (g.O.Journals.closed c.args.outside.now.journals) in
    let new_net : Linked g.row.N-L-P.Denot =
    linked (g.N.Net.state c.run.new.outside.net) (g.N.Net.faults c.run.new.outside.net)
    (g.O.Journals.closed c.run.new.outside.journals) in
    let line_of = λ (p : g.row.N-L-P.Denot). let l : Line = g.N.L.P.Peer.line p in l in
    let address_of =
    λ (p : g.row.N-L-P.Denot). let a : Option SocketAddress = g.N.L.P.Peer.address p in a in
    let old_out : Output = g.K.Sink.output c.args.outside.now.out in
    let new_out : Output = g.K.Sink.output c.run.new.outside.out in
    read_due line_of address_of (g.C.Clock.of_fork c.args.outside.now.clock)
    (map string_bytes c.args.words.now)
    old_in new_in old_files new_files old_net new_net old_out new_out c.code.result
    (rw (← c.code.ensures) at c.run.ensures)

pub returns-clause-long : goal.returns-clause-long
returns-clause-long g c =
    let old_in : Input = g.S.Source.input c.args.outside.now.input in
    let new_in : Input = g.S.Source.input c.run.new.outside.input in
    let old_files : Filed = g.F.Folder.filed c.args.outside.now.folder in
    let new_files : Filed = g.F.Folder.filed c.run.new.outside.folder in
    let old_net : Linked g.row.N-L-P.Denot =
    linked (g.N.Net.state c.args.outside.now.net) (g.N.Net.faults c.args.outside.now.net)
    (g.O.Journals.closed c.args.outside.now.journals) in
    let new_net : Linked g.row.N-L-P.Denot =
    linked (g.N.Net.state c.run.new.outside.net) (g.N.Net.faults c.run.new.outside.net)
    (g.O.Journals.closed c.run.new.outside.journals) in
    let line_of = λ (p : g.row.N-L-P.Denot). let l : Line = g.N.L.P.Peer.line p in l in
    let address_of =
    λ (p : g.row.N-L-P.Denot). let a : Option SocketAddress = g.N.L.P.Peer.address p in a in
    let old_out : Output = g.K.Sink.output c.args.outside.now.out in
    let new_out : Output = g.K.Sink.output c.run.new.outside.out in
    long_due line_of address_of (g.C.Clock.of_fork c.args.outside.now.clock)
    (map string_bytes c.args.words.now)
    old_in new_in old_files new_files old_net new_net old_out new_out c.code.result
    (rw (← c.code.ensures) at c.run.ensures)
