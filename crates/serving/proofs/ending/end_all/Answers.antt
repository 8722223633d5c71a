use Rattle.std.proofs.Common.{◌≡◌, ◌++◌, ◌||◌, Bool, ap, length-append, arith}
use Rattle.std.proofs.Common.{refl, sym, ◌∙◌}
use Rattle.std.specs.Prelude.{nat_le}
use Rattle.std.specs.List.{list_any}
use Rattle.std.specs.Vec.Iter.{into_iter_items}
use Rattle.line_base.specs.Accepts.{Listening}
use Rattle.line_base.specs.Dials.{Upstream}
use Rattle.line_base.specs.Nets.{Ended, log_of}
use Rattle.serving.specs.declared.parts.Part.{Part}
use Rattle.serving.specs.Parts.{ended_by}
use Rattle.serving.specs.Returning.{all_finished, having_finished, is_broken}
use Rattle.serving.proofs.Finishing.{ends_first}
use Rattle.serving.proofs.Returning.{finished_run, more_finished}
use Rattle.serving.proofs.ending.end_all.Goals as goal

pub returns : goal.returns
returns g c =
    let upstream = λ (d : g.row.N-D.Denot). let u : Upstream = g.N.D.Dialer.upstream d in u in
    let ended = λ (p : Part g.row.N-L.Denot g.row.N-D.Denot g.row.N-S.Denot).
    ended_by g.N.L.Listener.state upstream g.N.S.Stop.calls p in
    let first = c.take_next-first.result in
    let clients = c.finish_clients.ensures in
    let callers = c.finish_callers.ensures in
    let peers = clients.0 ++ callers.0 in
    let cut = sym c.into_iter-parts.ensures.rest ∙ c.take_next-first.ensures in
    let count = length-append clients.0 callers.0 in
    let many = clients.1 in
    let others = callers.1 in
    let line = callers.3 ∙ (ap (all_finished callers.0) clients.3
    ∙ more_finished clients.0 callers.0 (g.N.L.Listener.state first.listener)) in
    let e : Ended g.row.N-L-P.Denot = record {
      listener = g.N.L.Listener.state c.finish_callers.new.listener;
      log = log_of upstream first.dialer;
      stops = g.N.S.Stop.calls first.stop;
    } in
    let e_is : e ≡ having_finished peers (ended first) = λ i. record {
      listener = line i;
      log = log_of upstream first.dialer;
      stops = g.N.S.Stop.calls first.stop;
    } in
    let same = ap (λ (l : Listening g.row.N-L-P.Denot). nat_le 100 l.run) line
    ∙ ap (nat_le 100) (finished_run peers (g.N.L.Listener.state first.listener)) in
    record {
      state = (
        peers,
        omega (arith, count, many, others),
        record {
          clients = clients.0;
          callers = callers.0;
          are = refl;
          were_clients = clients.2;
          were_callers = callers.2;
        },
        ends_first ended peers _ _ first e (g.N.Net.state c.args.net.now) _ _ cut e_is
            c.end-failed.ensures.state c.end_rest.ensures.state,
      );
      broken = c.end_rest.ensures.broken
          ∙ (ap (λ (b : Bool). b || list_any (λ p. is_broken (ended p))
          (into_iter_items c.take_next-first.new.items)) (c.end-failed.ensures.broken ∙ same)
          ∙ ap (list_any (λ p. is_broken (ended p))) (sym cut));
      faults = c.end_rest.ensures.faults _ c.end-failed.ensures.faults;
    }
