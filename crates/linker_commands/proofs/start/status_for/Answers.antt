use Rattle.std.proofs.Common.{ℕ, List, map, ap, sym, subst, ◌∙◌}
use Rattle.std.specs.Prelude.{string_bytes}
use Rattle.std.specs.Prelude.{Option}
use Rattle.line_base.specs.Lines.{Line}
use Rattle.line_base.specs.declared.socket_address.SocketAddress.{SocketAddress}
use Rattle.line_base.specs.Files.{Filed}
use Rattle.line_base.specs.Streams.{Input, Output}
use Rattle.linker_commands.specs.Linked.{Linked, linked}
use Rattle.linker_commands.specs.Run.{Ran, words_of}
use Rattle.linker_commands.proofs.Runs.{no_words}
use Rattle.linker_commands.proofs.start.status_for.Goals as goal

pub returns-in-Ok-words_behind_name : goal.returns-in-Ok-words_behind_name
returns-in-Ok-words_behind_name g c =
    let old_in : Input = g.S.Source.input c.args.outside.now.input in
    let new_in : Input = g.S.Source.input c.linker.new.outside.input in
    let old_files : Filed = g.F.Folder.filed c.args.outside.now.folder in
    let new_files : Filed = g.F.Folder.filed c.linker.new.outside.folder in
    let old_net : Linked g.row.N-L-P.Denot =
    linked (g.N.Net.state c.args.outside.now.net) (g.N.Net.faults c.args.outside.now.net)
    (g.O.Journals.closed c.args.outside.now.journals) in
    let line_of = λ (p : g.row.N-L-P.Denot). let l : Line = g.N.L.P.Peer.line p in l in
    let address_of =
    λ (p : g.row.N-L-P.Denot). let a : Option SocketAddress = g.N.L.P.Peer.address p in a in
    let new_net : Linked g.row.N-L-P.Denot =
    linked (g.N.Net.state c.linker.new.outside.net) (g.N.Net.faults c.linker.new.outside.net)
    (g.O.Journals.closed c.linker.new.outside.journals) in
    let old_out : Output = g.K.Sink.output c.args.outside.now.out in
    let new_out : Output = g.K.Sink.output c.linker.new.outside.out in
    subst (λ (words : List (List ℕ)). Ran line_of address_of
    (g.C.Clock.of_fork c.args.outside.now.clock)
    words old_in
    new_in old_files new_files old_net new_net old_out new_out c.linker.result)
    (ap (map string_bytes) (c.as_slice.ensures.value ∙ c.in-Ok-words_behind_name.ensures)
    ∙ sym (ap words_of c.in-Ok.is)) c.linker.ensures.ran

pub returns-in-Err-words_behind_name : goal.returns-in-Err-words_behind_name
returns-in-Err-words_behind_name g c =
    let old_in : Input = g.S.Source.input c.args.outside.now.input in
    let old_files : Filed = g.F.Folder.filed c.args.outside.now.folder in
    let old_net : Linked g.row.N-L-P.Denot =
    linked (g.N.Net.state c.args.outside.now.net) (g.N.Net.faults c.args.outside.now.net)
    (g.O.Journals.closed c.args.outside.now.journals) in
    let line_of = λ (p : g.row.N-L-P.Denot). let l : Line = g.N.L.P.Peer.line p in l in
    let address_of =
    λ (p : g.row.N-L-P.Denot). let a : Option SocketAddress = g.N.L.P.Peer.address p in a in
    let old_out : Output = g.K.Sink.output c.args.outside.now.out in
    let new_out : Output = g.K.Sink.output c.tell.new.out in
    let words = words_of c.args.arguments in
    subst (Ran line_of address_of (g.C.Clock.of_fork c.args.outside.now.clock) words old_in old_in
    old_files old_files
    old_net old_net old_out new_out) (sym c.code.ensures)
    (no_words line_of address_of (g.C.Clock.of_fork c.args.outside.now.clock) words old_in
    old_files old_net
    old_out new_out c.tell.result c.tell.ensures)

pub returns-in-Err : goal.returns-in-Err
returns-in-Err g c =
    let old_in : Input = g.S.Source.input c.args.outside.now.input in
    let old_files : Filed = g.F.Folder.filed c.args.outside.now.folder in
    let old_net : Linked g.row.N-L-P.Denot =
    linked (g.N.Net.state c.args.outside.now.net) (g.N.Net.faults c.args.outside.now.net)
    (g.O.Journals.closed c.args.outside.now.journals) in
    let line_of = λ (p : g.row.N-L-P.Denot). let l : Line = g.N.L.P.Peer.line p in l in
    let address_of =
    λ (p : g.row.N-L-P.Denot). let a : Option SocketAddress = g.N.L.P.Peer.address p in a in
    let old_out : Output = g.K.Sink.output c.args.outside.now.out in
    let new_out : Output = g.K.Sink.output c.tell-in-Err.new.out in
    let words = words_of c.args.arguments in
    subst (Ran line_of address_of (g.C.Clock.of_fork c.args.outside.now.clock) words old_in old_in
    old_files old_files
    old_net old_net old_out new_out) (sym c.code-in-Err.ensures)
    (no_words line_of address_of (g.C.Clock.of_fork c.args.outside.now.clock) words old_in
    old_files old_net
    old_out new_out c.tell-in-Err.result c.tell-in-Err.ensures)
