use Rattle.std.proofs.Common.{Bool, List, ℕ, [], ◌++◌, false, refl, sym, subst, ap, ◌∙◌}
use Rattle.std.proofs.Common.{inr, Some}
use Rattle.std.proofs.KnownBytes.{Appends-nil, Appends-trans, Consumes-nil, Consumes-trans}
use Rattle.router.specs.Passes.{number_in}
use Rattle.http_wire.specs.Paused.{quiets_behind}
use Rattle.api_sessions.specs.Reading.{raised_where}
use Rattle.api_sessions.specs.Serving.{Serves, begun, calls_after, ended_in}
use Rattle.api_sessions.specs.Stays.{sources_by}
use Rattle.api_sessions.proofs.Turning.{all_causes, few_served, serves_all, serves_more}
use Rattle.api_sessions.proofs.Turning.{want_causes}
use Rattle.api_sessions.proofs.serving.serve_stay.Goals as goal

pub requests-init : goal.requests-init
requests-init g c = record {
  few = c.requires;
  number = refl;
  calls = refl;
  serves = (
    [],
    [],
    Consumes-nil (g.P.Peer.line c.args.peer.now).left,
    Appends-nil (g.P.Peer.line c.args.peer.now).given,
    λ more.
        subst
        (λ (rest : List ℕ). Serves c.args.which c.args.served
        (sources_by g.X.Scrape.told c.args.worker.now) more c.args.served
        (sources_by g.X.Scrape.told c.args.worker.now) (rest ++ more) [])
        (sym c.in-Ok.ensures) begun,
  );
  ends = refl;
  reads = refl;
  writes = refl;
  closings = refl;
  quiets = refl;
}

pub requests-preserved : goal.requests-preserved
requests-preserved g c =
    let i = c.requests.invariant in
    let s = i.serves in
    let t = c.in-None.ensures.turn in
    let now = c.in-None.ensures.causes in
    let old = g.P.Peer.line c.args.peer.now in
    let mid = g.P.Peer.line c.requests.peer in
    let new = g.P.Peer.line c.serve_next.new.peer in
    let first = sources_by g.X.Scrape.told c.args.worker.now in
    let before = sources_by g.X.Scrape.told c.requests.worker in
    let behind = sources_by g.X.Scrape.told c.serve_next.new.worker in
    record {
      few =
          few_served c.args.which c.args.served first c.requests.count before behind s.0 s.1 t.0
          t.1 c.requests.rest c.serve_next.new.rest s.4 i.few t.2 t.3 t.8;
      number = c.in-None.ensures.number ∙ i.number;
      calls = t.6 ∙ ap (calls_after (g.S.Stop.calls c.requests.worker.stop)) t.8.0 ∙ i.calls;
      serves = (
        s.0 ++ t.0,
        s.1 ++ t.1,
        Consumes-trans old.left mid.left new.left s.0 t.0 s.2 t.4,
        Appends-trans old.given mid.given new.given s.1 t.1 s.3 t.5,
        serves_more c.args.which c.args.served first c.requests.count before behind s.0 s.1 t.0
            t.1 c.requests.rest c.serve_next.new.rest s.4 t.2 t.3 t.8,
      );
      ends = now.reading.ends ∙ i.ends;
      reads = now.reading.faults ∙ i.reads;
      writes = now.writes ∙ i.writes;
      closings =
          t.7 ∙ (ap (λ (b : Bool). raised_where b mid.closings) t.8.1 ∙ i.closings);
      quiets = c.in-None.ensures.quiets ∙ i.quiets;
    }

pub returns-in-Some-clause-stay : goal.returns-in-Some-clause-stay
returns-in-Some-clause-stay g c =
    let i = c.requests.invariant in
    let s = i.serves in
    let t = c.in-Some.ensures.turn in
    let old = g.P.Peer.line c.args.peer.now in
    let mid = g.P.Peer.line c.requests.peer in
    let new = g.P.Peer.line c.serve_next.new.peer in
    record {
      came = s.0 ++ t.0;
      gave = s.1 ++ t.1;
      stopped = t.2;
      closing = t.3;
      left = Consumes-trans old.left mid.left new.left s.0 t.0 s.2 t.4;
      given = Appends-trans old.given mid.given new.given s.1 t.1 s.3 t.5;
      stops = t.6 ∙ ap (λ (n : ℕ). calls_after n t.2) i.calls;
      closings = t.7 ∙ ap (raised_where t.3) i.closings;
      quiets =
          c.in-Some.ensures.quiets
          ∙ ap (λ (n : ℕ). quiets_behind (Some c.in-Some.paused) n) i.quiets;
      serves =
          serves_all c.args.which c.args.served (sources_by g.X.Scrape.told c.args.worker.now)
          c.requests.count (sources_by g.X.Scrape.told c.requests.worker)
          (sources_by g.X.Scrape.told c.serve_next.new.worker) s.0 s.1 t.0 t.1 c.requests.rest
          c.serve_next.new.rest s.4 t.2 t.3 c.in-Some.paused t.8;
      causes =
          all_causes old.ends mid.ends new.ends old.read_faults mid.read_faults new.read_faults
          old.write_faults mid.write_faults new.write_faults (ended_in (Some c.in-Some.paused))
          i.ends i.reads i.writes c.in-Some.ensures.causes;
      none_left = c.in-Some.ensures.none_left;
      number = c.in-Some.ensures.number ∙ i.number;
    }

pub returns-in_default-clause-stay : goal.returns-in_default-clause-stay
returns-in_default-clause-stay g c =
    let old = g.P.Peer.line c.args.peer.now in
    record {
      came = [];
      gave = [];
      stopped = false;
      closing = false;
      left = Consumes-nil old.left;
      given = Appends-nil old.given;
      stops = refl {a = g.S.Stop.calls c.args.worker.now.stop};
      closings = refl {a = old.closings};
      quiets = refl {a = old.quiets};
      serves = record {
        mid = sources_by g.X.Scrape.told c.args.worker.now;
        rest = [];
        first = [];
        final = [];
        serves = begun;
        pauses =
            inr (refl {a = sources_by g.X.Scrape.told c.args.worker.now}, refl, refl, refl);
        all = refl;
      };
      causes = want_causes old.ends old.read_faults old.write_faults;
      none_left = λ at. absurd (cc);
      number = refl {a = number_in c.args.worker.now.pass};
    }
