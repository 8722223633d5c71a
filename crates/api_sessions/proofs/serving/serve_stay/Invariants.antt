use Rattle.std.proofs.Common.{◌≡◌, ◌<◌, ℕ, List, ◌++◌}
use Rattle.std.specs.Io.KnownBytes.{Appends, Consumes}
use Rattle.router.specs.Passes.{number_in}
use Rattle.api_sessions.specs.Serving.{Serves}
use Rattle.api_sessions.specs.Stays.{sources_by}
use Rattle.api_sessions.proofs.serving.serve_stay.Given as goal

abbrev pub invariant-requests : goal.invariant-requests
invariant-requests g l = record {
  few : l.count < 10000;
  number : number_in l.worker.pass ≡ number_in l.fn.worker.pass;
  calls : g.S.Stop.calls l.worker.stop ≡ g.S.Stop.calls l.fn.worker.stop;
  serves : (came : List ℕ) × (gave : List ℕ)
      × Consumes (g.P.Peer.line l.fn.peer).left (g.P.Peer.line l.peer).left came
      × Appends (g.P.Peer.line l.fn.peer).given (g.P.Peer.line l.peer).given gave
      × ((more : List ℕ) → Serves l.fn.which l.fn.served
      (sources_by g.X.Scrape.told l.fn.worker) (came ++ more) l.count
      (sources_by g.X.Scrape.told l.worker) (l.rest ++ more) gave);
  ends : (g.P.Peer.line l.peer).ends ≡ (g.P.Peer.line l.fn.peer).ends;
  reads : (g.P.Peer.line l.peer).read_faults ≡ (g.P.Peer.line l.fn.peer).read_faults;
  writes : (g.P.Peer.line l.peer).write_faults ≡ (g.P.Peer.line l.fn.peer).write_faults;
  closings : (g.P.Peer.line l.peer).closings ≡ (g.P.Peer.line l.fn.peer).closings;
  quiets : (g.P.Peer.line l.peer).quiets ≡ (g.P.Peer.line l.fn.peer).quiets;
}
