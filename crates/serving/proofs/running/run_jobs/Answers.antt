use Rattle.std.proofs.Common.{ℕ, Bool, false, map, ap, arith, sym, subst, ◌∙◌}
use Rattle.std.specs.Vec.Iter.{into_iter_items}
use Rattle.std.specs.Prelude.{Option}
use Rattle.line_base.specs.declared.socket_address.SocketAddress.{SocketAddress}
use Rattle.line_base.specs.Dials.{Upstream}
use Rattle.line_base.specs.Lines.{Line}
use Rattle.line_base.specs.Nets.{Networking}
use Rattle.router.specs.Closing.{numbers_of}
use Rattle.scrape.specs.Scrapes.{Scraping}
use Rattle.serving.specs.declared.instruments.Instruments.{Instruments}
use Rattle.serving.specs.Faults.{TellsFaults}
use Rattle.serving.specs.Running.{HasRun, Listens}
use Rattle.serving.proofs.Chains.{no_fault}
use Rattle.serving.proofs.Parting.{same_room}
use Rattle.serving.proofs.Shifts.{has_run}
use Rattle.serving.proofs.running.run_jobs.Goals as goal

pub post_and_run-ran-requires-clause-listens : goal.post_and_run-ran-requires-clause-listens
post_and_run-ran-requires-clause-listens g c κs within =
    subst (λ (n : Networking g.row.N-L-P.Denot).
    Listens g.N.L.Listener.state n.told c.args.plan.now.site.now c.args.resources.bound)
    (sym c.make_stock.ensures.kept.0) c.requires.listens

pub close_all-passes-requires-clause-some : goal.close_all-passes-requires-clause-some
close_all-passes-requires-clause-some g c κs within =
    let parts = c.post_and_run-ran.ensures.parts in omega (arith, parts.parts)

pub close_all-passes-requires-clause-clients : goal.close_all-passes-requires-clause-clients
close_all-passes-requires-clause-clients g c κs within =
    let parts = c.post_and_run-ran.ensures.parts in
    let blanks = c.requires.blanks in (
      omega (arith, parts.clients, blanks.clients_left.2),
      omega (arith, parts.clients, blanks.clients_taken.2),
    )

pub close_all-passes-requires-clause-callers : goal.close_all-passes-requires-clause-callers
close_all-passes-requires-clause-callers g c κs within =
    let parts = c.post_and_run-ran.ensures.parts in
    let blanks = c.requires.blanks in (
      omega (arith, parts.callers, blanks.callers_left.2),
      omega (arith, parts.callers, blanks.callers_taken.2),
    )

pub close_all-passes-requires-clause-room : goal.close_all-passes-requires-clause-room
close_all-passes-requires-clause-room g c κs within =
    let ran = c.post_and_run-ran.ensures in
    same_room c.post_and_run-ran.new.apart _ _ (sym ran.rest) ran.room

pub returns : goal.returns
returns g c =
    let line_of = λ (p : g.row.N-L-P.Denot). let l : Line = g.N.L.P.Peer.line p in l in
    let address_of = λ (p : g.row.N-L-P.Denot). let a : Option SocketAddress =
    g.N.L.P.Peer.address p in a in
    let told_of = λ (x : g.row.X.Denot). let s : Scraping = g.X.Scrape.told x in s in
    let upstream = λ (d : g.row.N-D.Denot). let u : Upstream = g.N.D.Dialer.upstream d in u in
    let kept = c.make_stock.ensures.kept in
    let ran = c.post_and_run-ran.ensures in
    let closed = c.close_all-passes.ensures in
    let passes = c.close_all-passes.result.1.items in
    let given = c.args.resources.instruments.recorders.items in
    let scrapers = map told_of c.args.resources.instruments.scrapers.items in
    let back = c.close_all-passes.result.2.items in
    record {
      numbers = ap numbers_of closed.passes ∙ ran.numbers;
      faults = subst (λ (n : ℕ). TellsFaults n (g.N.Net.faults c.close_all-passes.new.net)
          c.close_all-passes.result.0.failed) (ran.kept ∙ kept.1) closed.faults;
      served = λ is good. subst (λ (b : Bool). HasRun line_of address_of g.K.Recorder
          c.args.plan.now.site.now (g.C.Clock.of_fork c.args.clock.now)
          c.args.resources.passes.items passes given back scrapers (g.N.Net.state c.args.net.now)
          (g.N.Net.state c.close_all-passes.new.net) b) (sym closed.lacked)
          (subst (λ (n : Networking g.row.N-L-P.Denot). HasRun line_of address_of g.K.Recorder
          c.args.plan.now.site.now (g.C.Clock.of_fork c.args.clock.now)
          c.args.resources.passes.items passes given back scrapers n
          (g.N.Net.state c.close_all-passes.new.net) c.post_and_run-ran.new.apart.lacked_memory)
          kept.0
          (subst (λ (i : Instruments g.row.K.Denot g.row.X.Denot).
          HasRun line_of address_of g.K.Recorder
          c.args.plan.now.site.now (g.C.Clock.of_fork c.args.clock.now)
          c.args.resources.passes.items passes i.recorders.items back (map told_of i.scrapers.items)
          (g.N.Net.state c.make_stock.new.net)
          (g.N.Net.state c.close_all-passes.new.net) c.post_and_run-ran.new.apart.lacked_memory)
          c.in-Ok.ensures.instruments
          (has_run line_of address_of g.K.Recorder g.N.L.Listener.state upstream
          g.N.S.Stop.calls c.args.plan.now.site.now (g.C.Clock.of_fork c.args.clock.now)
          c.args.resources.passes.items (into_iter_items c.post_and_run-ran.result.1) passes _ back
          _
          c.post_and_run-ran.new.apart (g.N.Net.state c.make_stock.new.net)
          (g.N.Net.state c.post_and_run-ran.new.net)
          (g.N.Net.state c.close_all-passes.new.net) g.J.Handling.rule g.J.Handling.tries
          (ran.tended is (sym closed.broken ∙ good)) ran.rest ran.stops closed.ends
          c.requires.handled closed.passes closed.recorders)));
    }

pub returns-in_default-clause-faults : goal.returns-in_default-clause-faults
returns-in_default-clause-faults g c =
    rw c.unrun.ensures.1
    (subst (λ (n : ℕ). TellsFaults (g.N.Net.faults c.args.net.now) n false)
    (sym c.make_stock.ensures.kept.1) (no_fault (g.N.Net.faults c.args.net.now)))
