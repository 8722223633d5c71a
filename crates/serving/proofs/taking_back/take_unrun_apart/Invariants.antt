use Rattle.std.proofs.Common.{ℕ, ◌+◌, length}
use Rattle.std.specs.Vec.Iter.{into_iter_items}
use Rattle.serving.specs.declared.parts.Apart.{Apart}
use Rattle.serving.specs.Parts.{HasRoom, TakesApart}
use Rattle.serving.proofs.taking_back.take_unrun_apart.Given as goal

abbrev pub invariant-loop-job : goal.invariant-loop-job
invariant-loop-job g l = record {
  apart : (end : Apart g.row.J.Denot g.row.N-L.Denot g.row.N-D.Denot g.row.N-S.Denot g.row.K.Denot
      g.row.A.Denot g.row.B.Denot g.row.E.Denot g.row.F.Denot g.J.Naming)
      → TakesApart g.N.L.Listener.state (λ d. g.N.D.Dialer.upstream d) g.N.S.Stop.calls
      ((into_iter_items l.job-iterator)) l.apart end
      → TakesApart g.N.L.Listener.state (λ d. g.N.D.Dialer.upstream d) g.N.S.Stop.calls
      ((l.fn.jobs.items)) l.fn.apart end;
  room : (n : ℕ) → HasRoom l.fn.apart (length l.fn.jobs.items + n)
      → HasRoom l.apart (length (into_iter_items l.job-iterator) + n);
}
