use Rattle.std.proofs.Common.{List, ap, refl}
use Rattle.http_wire.specs.declared.paused.Paused.TheVariants as paused
use Rattle.router_log.specs.Operation.{Operation}
use Rattle.router.specs.Tickets.{told_in}
use Rattle.api_sessions.specs.Stays.{GoesOn, Standing, Visit, idle_behind, idle_by, standing_by}
use Rattle.api_sessions.specs.Workers.{Learns, worker_value}
use Rattle.api_sessions.proofs.Staying.{stayed_with, waits_on}
use Rattle.api_sessions.proofs.idle.IdleCaller.serve.Goals as goal

pub invariant_of-result : goal.invariant_of-result
invariant_of-result g c =
    let i = c.self.inside in
    let line_of = g.P.Peer.line in
    let old : Standing g.row.J.Denot g.J.Naming = record {
      line = line_of i.peer;
      pass = c.learn.new.self;
      stops = g.S.Stop.calls c.args.worker.now.stop;
      told = g.X.Scrape.told c.args.worker.now.scraper;
    } in
    let new =
    standing_by line_of g.S.Stop.calls g.X.Scrape.told c.serve_stay.new.peer
    c.serve_stay.new.worker in
    let v : Visit g.row.J.Denot g.J.Naming
    = record { from = i.served; upto = c.serve_stay.result.0; old = old; new = new } in
    let idle = idle_by (line_of i.first.value) (line_of i.peer) i.which i.served
    (told_in i.ticket) in
    let goes : GoesOn idle v
    = record { line = refl; served = refl; seen = c.learn.ensures.told } in
    waits_on idle v c.serve_stay.result.1 c.serve_stay.result.0 (told_in c.ticket.result)
    c.self.invariant goes c.serve_stay.ensures.stay c.in_default-Quiet.is-1 refl c.ticket.ensures

pub returns-in_default-Quiet-clause-stays : goal.returns-in_default-Quiet-clause-stays
returns-in_default-Quiet-clause-stays g c =
    let i = c.self.inside in
    let l = c.learn.ensures in
    let line_of = g.P.Peer.line in
    let old : Standing g.row.J.Denot g.J.Naming = record {
      line = line_of i.peer;
      pass = c.learn.new.self;
      stops = g.S.Stop.calls c.args.worker.now.stop;
      told = g.X.Scrape.told c.args.worker.now.scraper;
    } in
    let new =
    standing_by line_of g.S.Stop.calls g.X.Scrape.told c.serve_stay.new.peer
    c.serve_stay.new.worker in
    let v : Visit g.row.J.Denot g.J.Naming
    = record { from = i.served; upto = c.serve_stay.result.0; old = old; new = new } in
    let first = line_of i.first.value in
    let idle = idle_by first (line_of i.peer) i.which i.served (told_in i.ticket) in
    let goes : GoesOn idle v = record { line = refl; served = refl; seen = l.told } in
    let learns : Learns (told_in i.ticket) c.args.worker.now.pass c.learn.new.self
    = record {
      number = l.number;
      seen = l.seen;
      told = l.told;
      more = l.more;
      counts = l.counts;
    } in
    stayed_with idle c.args.self
    (worker_value g.S.Stop.calls g.X.Scrape.told c.args.worker.now)
    (worker_value g.S.Stop.calls g.X.Scrape.told c.serve_stay.new.worker)
    (idle_by first new.line i.which c.serve_stay.result.0 (told_in c.ticket.result)) v
    c.serve_stay.result.1 paused.Quiet c.self.view_is learns refl refl goes
    c.serve_stay.ensures.stay
    c.in_default-Quiet.is-1 refl
    (ap (λ (ops : List Operation). idle_by first new.line i.which c.serve_stay.result.0 ops)
    c.ticket.ensures)

pub returns-in_default-Ended-clause-stays : goal.returns-in_default-Ended-clause-stays
returns-in_default-Ended-clause-stays g c =
    let i = c.self.inside in
    let l = c.learn.ensures in
    let line_of = g.P.Peer.line in
    let old : Standing g.row.J.Denot g.J.Naming = record {
      line = line_of i.peer;
      pass = c.learn.new.self;
      stops = g.S.Stop.calls c.args.worker.now.stop;
      told = g.X.Scrape.told c.args.worker.now.scraper;
    } in
    let new =
    standing_by line_of g.S.Stop.calls g.X.Scrape.told c.serve_stay.new.peer
    c.serve_stay.new.worker in
    let v : Visit g.row.J.Denot g.J.Naming
    = record { from = i.served; upto = c.serve_stay.result.0; old = old; new = new } in
    let idle = idle_by (line_of i.first.value) (line_of i.peer) i.which i.served
    (told_in i.ticket) in
    let goes : GoesOn idle v = record { line = refl; served = refl; seen = l.told } in
    let learns : Learns (told_in i.ticket) c.args.worker.now.pass c.learn.new.self
    = record {
      number = l.number;
      seen = l.seen;
      told = l.told;
      more = l.more;
      counts = l.counts;
    } in
    let behind = idle_behind idle v in (
      behind,
      stayed_with idle c.args.self
          (worker_value g.S.Stop.calls g.X.Scrape.told c.args.worker.now)
          (worker_value g.S.Stop.calls g.X.Scrape.told c.serve_stay.new.worker) behind v
          c.serve_stay.result.1 (paused.Ended c.in_default-Ended.ended) c.self.view_is learns refl
          refl goes c.serve_stay.ensures.stay c.in_default-Ended.is-1 refl refl,
      refl,
    )
