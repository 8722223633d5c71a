use Rattle.std.proofs.Common.{◌≡◌, drop}
use Rattle.bind_cache.specs.Hash.{with_labels}
use Rattle.bind_cache.proofs.hash.mix_labels.Given as goal

abbrev pub invariant-loop-at : goal.invariant-loop-at
invariant-loop-at l = with_labels l.all (drop l.at l.path) ≡ with_labels l.hash l.path
