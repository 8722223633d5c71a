use Rattle.std.proofs.Common.{◌≡◌, ◌++◌, List, ap, arith, length, refl, ◌∙◌}
use Rattle.std.specs.Vec.Iter.{into_iter_items}
use Rattle.std.specs.Prelude.{Option}
use Rattle.line_base.specs.declared.socket_address.SocketAddress.{SocketAddress}
use Rattle.line_base.specs.Dials.{Upstream}
use Rattle.line_base.specs.Lines.{Line}
use Rattle.router.specs.declared.pass.Pass.{Pass}
use Rattle.router.specs.Closing.{numbers_of}
use Rattle.scrape.specs.Scrapes.{Scraping}
use Rattle.serving.specs.Jobs.{passes_of_jobs}
use Rattle.serving.specs.Posts.{jobs_of}
use Rattle.serving.proofs.Chains.{numbers_stay}
use Rattle.serving.proofs.Handing.{parts_of_site}
use Rattle.serving.proofs.Parting.{room_for_fewer, same_room}
use Rattle.serving.proofs.Shifts.{have_tended}
use Rattle.serving.proofs.running.post_and_run.Goals as goal

pub run_apart-ran-requires-clause-room : goal.run_apart-ran-requires-clause-room
run_apart-ran-requires-clause-room g c κs within =
    room_for_fewer c.args.apart.now _ _ (omega (arith, c.add_jobs.ensures.count)) c.requires.room

pub returns : goal.returns
returns g c =
    let line_of = λ (p : g.row.N-L-P.Denot). let l : Line = g.N.L.P.Peer.line p in l in
    let address_of = λ (p : g.row.N-L-P.Denot). let a : Option SocketAddress =
    g.N.L.P.Peer.address p in a in
    let told_of = λ (x : g.row.X.Denot). let s : Scraping = g.X.Scrape.told x in s in
    let upstream = λ (d : g.row.N-D.Denot). let u : Upstream = g.N.D.Dialer.upstream d in u in
    let site = c.args.setup.now.site.now in
    let moments = g.C.Clock.of_fork c.args.clock.now in
    let told = (g.N.Net.state c.args.net.now).told in
    let jobs = c.add_jobs.new.jobs.items in
    let passes = c.args.inputs.passes.items in
    let rest = into_iter_items c.add_jobs.new.passes in
    let old = c.args.apart.now in
    let new = c.run_apart-ran.new.apart in
    let posted = c.add_jobs.ensures in
    let length_is = posted.count in
    let count : length jobs ≡ jobs_of site = omega (arith, length_is) in
    let ran = c.run_apart-ran.ensures in
    let begun = c.into_iter-passes.ensures.rest in
    let whole = ap length begun in
    let handed = posted.passes ∙ begun in
    let same = ran.numbers
    ∙ ap (λ (ps : List (Pass g.row.J.Denot g.J.Naming)).
    numbers_of ps ++ numbers_of (passes_of_jobs jobs)) c.requires.nothing.passes in
    record {
      rest = omega (arith, posted.rest, whole, c.requires.seats);
      room = ran.room 1
          (same_room old _ _ (omega (arith, count)) c.requires.room);
      parts = parts_of_site g.N.L.Listener.state upstream g.C.Clock.to_come g.N.S.Stop.calls
          site.policy moments told site jobs old new posted.posted count c.requires.nothing
          ran.counts;
      numbers = numbers_stay passes (passes_of_jobs jobs) rest new.passes.items _ handed same refl;
      stops = posted.stops;
      kept = posted.kept;
      tended = λ is good. have_tended line_of address_of g.K.Recorder g.N.L.Listener.state
          upstream g.C.Clock.to_come g.N.S.Stop.calls told_of site moments told jobs passes rest
          c.args.inputs.supplies.instruments.recorders.items
          c.args.inputs.supplies.instruments.scrapers.items old new posted.posted handed
          posted.recorders posted.scrapers c.requires.nothing (ran.came is) good;
    }
