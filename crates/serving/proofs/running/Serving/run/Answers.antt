use Rattle.std.proofs.Common.{arith, map}
use Rattle.std.specs.Prelude.{Option}
use Rattle.line_base.specs.declared.socket_address.SocketAddress.{SocketAddress}
use Rattle.line_base.specs.Lines.{Line}
use Rattle.scrape.specs.Scrapes.{Scraping}
use Rattle.serving.proofs.Chains.{same_length}
use Rattle.serving.proofs.Outcome.{has_served}
use Rattle.serving.proofs.running.Serving.run.Goals as goal

pub close-place-requires-clause-all : goal.close-place-requires-clause-all
close-place-requires-clause-all g c =
    let same = same_length c.run_jobs-ran.result.passes.items c.args.self.passes.items
    c.run_jobs-ran.ensures.numbers in omega (arith, same, c.requires.ready.all)

pub returns-clause-served : goal.returns-clause-served
returns-clause-served g c = λ loaded seen.
    let line_of = λ (p : g.row.L-P.Denot). let l : Line = g.L.P.Peer.line p in l in
    let address_of = λ (p : g.row.L-P.Denot). let a : Option SocketAddress =
    g.L.P.Peer.address p in a in
    let told_of = λ (x : g.row.X.Denot). let s : Scraping = g.X.Scrape.told x in s in
    let ran = c.run_jobs-ran.ensures.served c.if-not-ran.false c.if-tally.false in
    has_served line_of address_of g.K.Recorder c.args.site.now
    (g.C.Clock.of_fork c.args.clock.now) loaded c.args.self.passes.items
    c.run_jobs-ran.result.passes.items c.args.instruments.recorders.items
    c.run_jobs-ran.result.recorders.items (map told_of c.args.instruments.scrapers.items)
    (g.N.Net.state c.args.net.now)
    (g.N.Net.state c.run_jobs-ran.new.net)
    (record {
      place = c.close-place.result;
      lacked_memory =
          c.run_jobs-ran.result.tally.lacked_memory;
    }) c.requires.ready.apart seen c.requires.listens.room ran c.close-place.ensures
