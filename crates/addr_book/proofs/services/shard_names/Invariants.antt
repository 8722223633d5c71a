use Rattle.std.proofs.Common.{◌≡◌, map, take}
use Rattle.addr_book.specs.Services.{service_shard}
use Rattle.addr_book.specs.Shards.{joined_keys}
use Rattle.addr_book.proofs.services.shard_names.Given as goal

abbrev pub invariant-loop-shard : goal.invariant-loop-shard
invariant-loop-shard l = l.names.items
    ≡ joined_keys (map service_shard (take l.shard-index l.shards))
