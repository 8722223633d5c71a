use Rattle.std.proofs.Common.{ℕ, List, subst, ◌∙◌}
use Rattle.line_base.specs.Dials.{Upstream}
use Rattle.line_base.specs.Streams.{Output}
use Rattle.follow_feed.specs.Progress.{Polled}
use Rattle.linker_commands.specs.Run.{no_memory}
use Rattle.linker_commands.proofs.Follows.{all_told, cut_told, short_told}
use Rattle.linker_commands.proofs.Runs.{tells_memory_first}
use Rattle.linker_commands.proofs.follow.follow.Goals as goal

pub returns-in_default-clause-followed : goal.returns-in_default-clause-followed
returns-in_default-clause-followed g c =
    let old : Output = g.K.Sink.output c.args.out.now in
    let new : Output = g.K.Sink.output c.tell.new.out in
    (no_memory, tt, tells_memory_first no_memory c.tell.result old new c.tell.ensures)

pub returns-in-Done-clause-followed : goal.returns-in-Done-clause-followed
returns-in-Done-clause-followed g c =
    let upstream = λ (d : g.row.N-D.Denot). let u : Upstream = g.N.D.Dialer.upstream d in u in
    let old : Output = g.K.Sink.output c.args.out.now in
    let new : Output = g.K.Sink.output c.follow_all.new.out in
    let e = c.in-Done.ensures in
    let f = e.follows in
    let named = c.in-Ok.ensures.ok ∙ c.as_bytes.ensures.value in
    let made = subst (λ (s : List ℕ). Polled c.args.following.leader s
    (upstream c.dialer-dialer.result) f.0 (upstream c.follow_all.new.dialer)) named f.2 in
    all_told (g.N.Net.state c.args.net.now).told c.args.following.leader
    c.args.following.space.now c.args.following.polls (upstream c.dialer-dialer.result)
    (upstream c.follow_all.new.dialer)
    (c.dialer-dialer.ensures.log, c.dialer-dialer.ensures.closed) f.0 made old
    new f.1 f.3 f.4 e.faults

pub returns-in-WriteFault-clause-followed : goal.returns-in-WriteFault-clause-followed
returns-in-WriteFault-clause-followed g c =
    let upstream = λ (d : g.row.N-D.Denot). let u : Upstream = g.N.D.Dialer.upstream d in u in
    let old : Output = g.K.Sink.output c.args.out.now in
    let new : Output = g.K.Sink.output c.follow_all.new.out in
    let e = c.in-WriteFault.ensures in
    let f = e.follows in
    let named = c.in-Ok.ensures.ok ∙ c.as_bytes.ensures.value in
    let made = subst (λ (s : List ℕ). Polled c.args.following.leader s
    (upstream c.dialer-dialer.result) f.0 (upstream c.follow_all.new.dialer)) named f.2 in
    cut_told (g.N.Net.state c.args.net.now).told c.args.following.leader
    c.args.following.space.now c.args.following.polls (upstream c.dialer-dialer.result)
    (upstream c.follow_all.new.dialer)
    (c.dialer-dialer.ensures.log, c.dialer-dialer.ensures.closed) f.0 made old
    new f.1 f.3 f.4 e.faults

pub returns-clause-followed : goal.returns-clause-followed
returns-clause-followed g c =
    let upstream = λ (d : g.row.N-D.Denot). let u : Upstream = g.N.D.Dialer.upstream d in u in
    let old : Output = g.K.Sink.output c.args.out.now in
    let mid : Output = g.K.Sink.output c.follow_all.new.out in
    let new : Output = g.K.Sink.output c.tell-in-OutOfMemory.new.out in
    let e = c.in-OutOfMemory.ensures in
    let f = e.follows in
    let named = c.in-Ok.ensures.ok ∙ c.as_bytes.ensures.value in
    let made = subst (λ (s : List ℕ). Polled c.args.following.leader s
    (upstream c.dialer-dialer.result) f.0 (upstream c.follow_all.new.dialer)) named f.2 in
    short_told (g.N.Net.state c.args.net.now).told c.args.following.leader
    c.args.following.space.now c.args.following.polls (upstream c.dialer-dialer.result)
    (upstream c.follow_all.new.dialer)
    (c.dialer-dialer.ensures.log, c.dialer-dialer.ensures.closed) f.0 made old
    mid new c.tell-in-OutOfMemory.result f.1 f.3 f.4 e.faults c.tell-in-OutOfMemory.ensures
