use Rattle.std.proofs.Common.{◌≡◌, map}
use Rattle.bind_core.proofs.visits.Visits.into_paths.Given as goal

abbrev pub invariant-loop-item : goal.invariant-loop-item
invariant-loop-item l = l.paths.items ≡ map (λ i. i.path) l.yielded
