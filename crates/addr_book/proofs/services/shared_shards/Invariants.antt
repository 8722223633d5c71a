use Rattle.std.proofs.Common.{◌≡◌, map, take}
use Rattle.addr_book.specs.Services.{service_shard}
use Rattle.addr_book.proofs.services.shared_shards.Given as goal

abbrev pub invariant-loop-shard : goal.invariant-loop-shard
invariant-loop-shard l = map service_shard l.copy.items
    ≡ map service_shard (take l.shard-index l.shards)
