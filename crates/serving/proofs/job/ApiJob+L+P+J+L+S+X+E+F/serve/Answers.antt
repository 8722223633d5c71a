use Rattle.std.proofs.Common.{refl}
use Rattle.router.specs.Passes.{number_in}
use Rattle.api_sessions.specs.declared.which.Which.{Which}
use Rattle.line_base.specs.Lines.{Line}
use Rattle.scrape.specs.Scrapes.{Scraping}
use Rattle.serving.specs.Interfaces.{AnswersTurn, Desk, desk_of}
use Rattle.serving.specs.declared.interface.ApiServer.{ApiServer}
use Rattle.serving.proofs.Chains.{chain_shows, each_same}
use Rattle.serving.proofs.job.ApiJob+L+P+J+L+S+X+E+F.serve.Goals as goal

pub returns : goal.returns
returns g c =
    let did = c.serve_all-end.ensures in
    let turns = did.works.0 in
    let works = did.works.1 in
    let line_of = λ (p : g.row.L-P.Denot). let l : Line = g.L.P.Peer.line p in l in
    let told_of = λ (x : g.row.X.Denot). let s : Scraping = g.X.Scrape.told x in s in
    let seen = λ (s : ApiServer g.row.J.Denot g.row.S.Denot g.row.X.Denot g.J.Naming).
    let d : Desk g.row.J.Denot g.J.Naming =
    desk_of g.S.Stop.calls told_of s.worker s.lacked_memory in d in
    record {
      turns = turns;
      stopped = g.S.Stop.calls c.serve_all-end.new.server.worker.stop;
      serves = chain_shows _ seen
          (λ (s : ApiServer g.row.J.Denot g.row.S.Denot g.row.X.Denot g.J.Naming). s.which)
          (λ (w : Which) s t v. AnswersTurn line_of w s t v) (λ s t v is. (is.0, is.1)) _ _ turns _
          refl works.turns;
      lends = works.lends;
      hands = works.hands;
      ends = did.ends;
      stops = c.stop_if_failing.ensures;
      number = each_same _
          (λ (s : ApiServer g.row.J.Denot g.row.S.Denot g.row.X.Denot g.J.Naming).
          number_in s.worker.pass)
          (λ s t v is. is.2) _ turns _ works.turns;
    }
