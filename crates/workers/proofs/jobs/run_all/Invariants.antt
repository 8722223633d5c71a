use Rattle.std.proofs.Common.{◌≡◌, ◌+◌, ◌≤◌, length, vec_capacity}
use Rattle.std.specs.Prelude.{MatchResult}
use Rattle.std.specs.Vec.Iter.{into_iter_items}
use Rattle.workers.specs.Runs.{ComesBack}
use Rattle.workers.proofs.Beginning.{AreBegun, AreBack}
use Rattle.workers.proofs.jobs.run_all.Given as goal

abbrev pub invariant-loop-job : goal.invariant-loop-job
invariant-loop-job g l = record {
  begun : AreBegun (λ j b. MatchResult b (λ t. t.promise.before.value ≡ j)
      (ComesBack g.J.Job.runs j)) (ComesBack g.J.Job.runs) l.fn.jobs.items l.begun.items
      (into_iter_items l.job-iterator);
  room : length l.begun.items + length (into_iter_items l.job-iterator) ≤ vec_capacity l.begun;
  all : length l.begun.items + length (into_iter_items l.job-iterator) ≡ length l.fn.jobs.items;
}

abbrev pub invariant-loop-one : goal.invariant-loop-one
invariant-loop-one g l = record {
  back : AreBack (λ j b. MatchResult b (λ t. t.promise.before.value ≡ j)
      (ComesBack g.J.Job.runs j)) (ComesBack g.J.Job.runs) l.fn.jobs.items
      (into_iter_items l.one-iterator) l.back.items;
  room : length l.back.items + length (into_iter_items l.one-iterator) ≤ vec_capacity l.back;
}
