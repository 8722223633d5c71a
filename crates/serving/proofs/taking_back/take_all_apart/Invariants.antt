use Rattle.std.proofs.Common.{ℕ, ◌+◌, length, map}
use Rattle.std.specs.Vec.Iter.{into_iter_items}
use Rattle.workers.specs.declared.accepting.Accepting.{Accepting}
use Rattle.serving.specs.declared.parts.Apart.{Apart}
use Rattle.serving.specs.Jobs.{RouterJob}
use Rattle.serving.specs.Parts.{HasRoom, TakesApart}
use Rattle.serving.proofs.taking_back.take_all_apart.Given as goal

abbrev pub invariant-loop-ended : goal.invariant-loop-ended
invariant-loop-ended g l = record {
  apart : (end : Apart g.row.J.Denot g.row.N-L.Denot g.row.N-D.Denot g.row.N-S.Denot g.row.K.Denot
      g.row.A.Denot g.row.B.Denot g.row.E.Denot g.row.F.Denot g.J.Naming)
      → TakesApart g.N.L.Listener.state (λ d. g.N.D.Dialer.upstream d) g.N.S.Stop.calls
      (map
      (λ (b : (RouterJob g.row.N-L-P.Denot g.row.J.Denot g.row.N-L.Denot g.row.N-D.Denot
      g.row.C.Denot g.row.K.Denot g.row.N-S.Denot g.row.X.Denot g.row.A.Denot g.row.B.Denot
      g.row.E.Denot g.row.F.Denot g.J.Handling g.J.Naming) × Accepting). b.0)
      (into_iter_items l.ended-iterator)) l.apart end
      → TakesApart g.N.L.Listener.state (λ d. g.N.D.Dialer.upstream d) g.N.S.Stop.calls
      (map
      (λ (b : (RouterJob g.row.N-L-P.Denot g.row.J.Denot g.row.N-L.Denot g.row.N-D.Denot
      g.row.C.Denot g.row.K.Denot g.row.N-S.Denot g.row.X.Denot g.row.A.Denot g.row.B.Denot
      g.row.E.Denot g.row.F.Denot g.J.Handling g.J.Naming) × Accepting). b.0) (l.fn.back.items))
      l.fn.apart end;
  room : (n : ℕ) → HasRoom l.fn.apart (length l.fn.back.items + n)
      → HasRoom l.apart (length (into_iter_items l.ended-iterator) + n);
}
