use Rattle.std.proofs.Common.{◌≡◌, map, take}
use Rattle.bind_cache.specs.Stored.{hash_in}
use Rattle.bind_cache.proofs.cache.chain_all.Given as goal

abbrev pub invariant-loop-at : goal.invariant-loop-at
invariant-loop-at l = l.chains ≡ record
    { first = 1; hashes = map hash_in (take l.at l.bindings.items) }
