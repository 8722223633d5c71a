use Rattle.std.proofs.Common.{refl}
use Rattle.line_base.specs.Lines.{Line}
use Rattle.api_sessions.specs.Workers.{worker_value}
use Rattle.scrape.specs.Scrapes.{Scraping}
use Rattle.serving.proofs.Answering.{ended_answered, waits_answered}
use Rattle.serving.proofs.interface.ApiServer.serve.Goals as goal

pub returns-in-Waits : goal.returns-in-Waits
returns-in-Waits g c =
    let line_of = λ (p : g.row.P.Denot). let l : Line = g.P.Peer.line p in l in
    let told_of = λ (x : g.row.X.Denot). let s : Scraping = g.X.Scrape.told x in s in
    let old = c.args.self.now in
    let stayed = c.serve.ensures in
    record {
      chain = stayed.chain;
      answered = waits_answered line_of c.args.caller
          (worker_value g.S.Stop.calls told_of old.worker)
          (worker_value g.S.Stop.calls told_of c.serve.new.worker) old.lacked_memory
          c.in-Waits.caller
          c.serve.result stayed.stays c.in-Waits.is;
      which = refl;
      number = stayed.number;
    }

pub returns-in-Ends : goal.returns-in-Ends
returns-in-Ends g c =
    let line_of = λ (p : g.row.P.Denot). let l : Line = g.P.Peer.line p in l in
    let told_of = λ (x : g.row.X.Denot). let s : Scraping = g.X.Scrape.told x in s in
    let old = c.args.self.now in
    let stayed = c.serve.ensures in
    record {
      chain = stayed.chain;
      answered = ended_answered line_of c.args.caller
          (worker_value g.S.Stop.calls told_of old.worker)
          (worker_value g.S.Stop.calls told_of c.serve.new.worker) old.lacked_memory
          c.lacked_behind-self.result c.in-Ends.peer c.in-Ends.ended c.serve.result stayed.stays
          c.in-Ends.is c.lacked_behind-self.ensures;
      which = refl;
      number = stayed.number;
    }
