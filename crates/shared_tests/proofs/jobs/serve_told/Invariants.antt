use Rattle.std.proofs.Common.{length}
use Rattle.shared_tests.proofs.jobs.serve_told.Given as goal

abbrev pub decreases-loop-kept : goal.decreases-loop-kept
decreases-loop-kept g l = length l.waiters.waiting
