use Rattle.std.proofs.Common.{◌≡◌, ℕ, ◌||◌, map}
use Rattle.std.specs.List.{list_any}
use Rattle.std.specs.Vec.Iter.{into_iter_items}
use Rattle.line_base.specs.Dials.{Upstream}
use Rattle.serving.specs.Faults.{TellsFaults}
use Rattle.serving.specs.Parts.{ended_by}
use Rattle.serving.specs.Returning.{all_ended, is_broken}
use Rattle.serving.proofs.ending.end_rest.Given as goal

abbrev pub invariant-loop-part : goal.invariant-loop-part
invariant-loop-part g l =
    let upstream = λ (d : g.row.N-D.Denot). let u : Upstream = g.N.D.Dialer.upstream d in u in
    record {
      state : all_ended (map (ended_by g.N.L.Listener.state upstream g.N.S.Stop.calls)
          (into_iter_items l.part-iterator)) (g.N.Net.state l.net)
          ≡ all_ended (map (ended_by g.N.L.Listener.state upstream g.N.S.Stop.calls)
          (into_iter_items l.fn.parts)) (g.N.Net.state l.fn.net);
      broken : (l.any || list_any
          (λ p. is_broken (ended_by g.N.L.Listener.state upstream g.N.S.Stop.calls p))
          (into_iter_items l.part-iterator))
          ≡ (l.fn.failed || list_any
          (λ p. is_broken (ended_by g.N.L.Listener.state upstream g.N.S.Stop.calls p))
          (into_iter_items l.fn.parts));
      faults : (start : ℕ) → TellsFaults start (g.N.Net.faults l.fn.net) l.fn.failed
          → TellsFaults start (g.N.Net.faults l.net) l.any;
    }
