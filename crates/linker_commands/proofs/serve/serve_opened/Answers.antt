use Rattle.std.proofs.Common.{ap, Err, refl, ◌∙◌}
use Rattle.std.specs.Prelude.{Option}
use Rattle.line_base.specs.Lines.{Line}
use Rattle.line_base.specs.declared.socket_address.SocketAddress.{SocketAddress}
use Rattle.line_base.specs.Streams.{Output}
use Rattle.linker_commands.specs.Linked.{Linked, linked}
use Rattle.linker_commands.proofs.Serving.{line_by, no_room, no_memory_yet, not_listening}
use Rattle.linker_commands.proofs.Serving.{not_told, told_on}
use Rattle.linker_commands.proofs.serve.serve_opened.Goals as goal

pub returns-in-Err-Book-clause-served : goal.returns-in-Err-Book-clause-served
returns-in-Err-Book-clause-served g c = λ files config made.
    let line_of = λ (p : g.row.N-L-P.Denot). let l : Line = g.N.L.P.Peer.line p in l in
    let address_of =
    λ (p : g.row.N-L-P.Denot). let a : Option SocketAddress = g.N.L.P.Peer.address p in a in
    let linked_by = λ (n : g.row.N.Denot) (j : g.row.O.Denot).
    let l : Linked g.row.N-L-P.Denot =
    linked (g.N.Net.state n) (g.N.Net.faults n) (g.O.Journals.closed j) in l in
    let old : Output = g.K.Sink.output c.args.outside.now.out in
    let new : Output = g.K.Sink.output c.tell.new.out in
    let e = c.in-Err-Book.ensures in
    no_room g.row.J.Denot line_of address_of (g.C.Clock.of_fork c.args.outside.now.clock) files
    config _
    c.args.loaded c.args.logged.now.site c.args.logged.now.log
    (linked_by c.args.outside.now.net c.args.outside.now.journals)
    (linked_by c.start.new.net c.args.outside.now.journals) old new c.tell.result made
    (e.refused (ap Err c.in-Err-Book.field-0-is)) (e.kept (λ is. cc (is, c.in-Err-Book.field-0-is)))
    refl c.tell.ensures

pub returns-in-Err-Net-clause-served : goal.returns-in-Err-Net-clause-served
returns-in-Err-Net-clause-served g c = λ files config made.
    let line_of = λ (p : g.row.N-L-P.Denot). let l : Line = g.N.L.P.Peer.line p in l in
    let address_of =
    λ (p : g.row.N-L-P.Denot). let a : Option SocketAddress = g.N.L.P.Peer.address p in a in
    let linked_by = λ (n : g.row.N.Denot) (j : g.row.O.Denot).
    let l : Linked g.row.N-L-P.Denot =
    linked (g.N.Net.state n) (g.N.Net.faults n) (g.O.Journals.closed j) in l in
    let old : Output = g.K.Sink.output c.args.outside.now.out in
    let new : Output = g.K.Sink.output c.tell-in-Err-Net.new.out in
    not_listening g.row.J.Denot line_of address_of (g.C.Clock.of_fork c.args.outside.now.clock)
    files config
    (linked_by c.args.outside.now.net c.args.outside.now.journals)
    (linked_by c.start.new.net c.args.outside.now.journals)
    old new c.tell-in-Err-Net.result
    (c.args.loaded, made.loads) (c.in-Err-Net.ensures.broken (ap Err c.in-Err-Net.field-0-is))
    c.tell-in-Err-Net.ensures

pub returns-in-Err-OutOfMemory-clause-served : goal.returns-in-Err-OutOfMemory-clause-served
returns-in-Err-OutOfMemory-clause-served g c = λ files config made.
    let line_of = λ (p : g.row.N-L-P.Denot). let l : Line = g.N.L.P.Peer.line p in l in
    let address_of =
    λ (p : g.row.N-L-P.Denot). let a : Option SocketAddress = g.N.L.P.Peer.address p in a in
    let linked_by = λ (n : g.row.N.Denot) (j : g.row.O.Denot).
    let l : Linked g.row.N-L-P.Denot =
    linked (g.N.Net.state n) (g.N.Net.faults n) (g.O.Journals.closed j) in l in
    let old : Output = g.K.Sink.output c.args.outside.now.out in
    let new : Output = g.K.Sink.output c.tell-in-Err-OutOfMemory.new.out in
    no_memory_yet g.row.J.Denot line_of address_of (g.C.Clock.of_fork c.args.outside.now.clock)
    files config
    (linked_by c.args.outside.now.net c.args.outside.now.journals)
    (linked_by c.start.new.net c.args.outside.now.journals)
    old new c.tell-in-Err-OutOfMemory.result
    (c.in-Err-OutOfMemory.ensures.kept (λ is. cc (is, c.in-Err-OutOfMemory.field-0-is)))
    c.tell-in-Err-OutOfMemory.ensures

pub returns-in_default-clause-served : goal.returns-in_default-clause-served
returns-in_default-clause-served g c = λ files config made.
    let line_of = λ (p : g.row.N-L-P.Denot). let l : Line = g.N.L.P.Peer.line p in l in
    let address_of =
    λ (p : g.row.N-L-P.Denot). let a : Option SocketAddress = g.N.L.P.Peer.address p in a in
    let linked_by = λ (n : g.row.N.Denot) (j : g.row.O.Denot).
    let l : Linked g.row.N-L-P.Denot =
    linked (g.N.Net.state n) (g.N.Net.faults n) (g.O.Journals.closed j) in l in
    let old : Output = g.K.Sink.output c.args.outside.now.out in
    let new : Output = g.K.Sink.output c.tell-in_default.new.out in
    no_memory_yet g.row.J.Denot line_of address_of (g.C.Clock.of_fork c.args.outside.now.clock)
    files config
    (linked_by c.args.outside.now.net c.args.outside.now.journals)
    (linked_by c.start.new.net c.args.outside.now.journals)
    old new c.tell-in_default.result
    (c.in-Ok.ensures.kept (λ is. cc is)) c.tell-in_default.ensures

pub returns-in-Ok-write_all-clause-served : goal.returns-in-Ok-write_all-clause-served
returns-in-Ok-write_all-clause-served g c = λ files config made.
    let line_of = λ (p : g.row.N-L-P.Denot). let l : Line = g.N.L.P.Peer.line p in l in
    let address_of =
    λ (p : g.row.N-L-P.Denot). let a : Option SocketAddress = g.N.L.P.Peer.address p in a in
    let linked_by = λ (n : g.row.N.Denot) (j : g.row.O.Denot).
    let l : Linked g.row.N-L-P.Denot =
    linked (g.N.Net.state n) (g.N.Net.faults n) (g.O.Journals.closed j) in l in
    let old : Output = g.K.Sink.output c.args.outside.now.out in
    let mid : Output = g.K.Sink.output c.write_all.new.sink in
    let new : Output = g.K.Sink.output c.serve_on.new.outside.out in
    let wrote = c.in-Ok-write_all.ensures in
    let begun = c.in-Ok.ensures in
    told_on g.row.J.Denot line_of address_of (g.C.Clock.of_fork c.args.outside.now.clock) files
    config
    (linked_by c.args.outside.now.net c.args.outside.now.journals)
    (linked_by c.start.new.net c.args.outside.now.journals)
    (linked_by c.serve_on.new.outside.net c.serve_on.new.outside.journals)
    c.as_slice.result.now old mid new c.serve_on.result
    (c.as_slice.ensures.value ∙ (c.in-Ok-site_text.ensures
    ∙ line_by (g.C.Clock.of_fork c.args.outside.now.clock) config c.args.logged.now.site
    made.site_is))
    (begun.kept (λ is. cc is)) wrote.ok wrote.kept
    (c.serve_on.ensures.served files config
    (linked_by c.args.outside.now.net c.args.outside.now.journals)
    c.args.loaded made begun.seen begun.net refl)

pub returns-clause-served : goal.returns-clause-served
returns-clause-served g c = λ files config made.
    let line_of = λ (p : g.row.N-L-P.Denot). let l : Line = g.N.L.P.Peer.line p in l in
    let address_of =
    λ (p : g.row.N-L-P.Denot). let a : Option SocketAddress = g.N.L.P.Peer.address p in a in
    let linked_by = λ (n : g.row.N.Denot) (j : g.row.O.Denot).
    let l : Linked g.row.N-L-P.Denot =
    linked (g.N.Net.state n) (g.N.Net.faults n) (g.O.Journals.closed j) in l in
    let old : Output = g.K.Sink.output c.args.outside.now.out in
    let new : Output = g.K.Sink.output c.write_all.new.sink in
    let wrote = c.in-Err.ensures in
    not_told g.row.J.Denot line_of address_of (g.C.Clock.of_fork c.args.outside.now.clock) files
    config
    (linked_by c.args.outside.now.net c.args.outside.now.journals)
    (linked_by c.start.new.net c.args.outside.now.journals)
    c.as_slice.result.now old new
    (c.as_slice.ensures.value ∙ (c.in-Ok-site_text.ensures
    ∙ line_by (g.C.Clock.of_fork c.args.outside.now.clock) config c.args.logged.now.site
    made.site_is))
    (c.in-Ok.ensures.kept (λ is. cc is)) wrote.cause wrote.err

pub returns-in-Ok-write_all-clause-kept : goal.returns-in-Ok-write_all-clause-kept
returns-in-Ok-write_all-clause-kept g c = c.serve_on.ensures.kept
