use Rattle.std.proofs.Common.{◌≡◌, map, take}
use Rattle.addr_book.specs.AddrMap.{addr_shard}
use Rattle.addr_book.proofs.addr_map.shared_shards.Given as goal

abbrev pub invariant-loop-shard : goal.invariant-loop-shard
invariant-loop-shard l = map addr_shard l.copy.items ≡ map addr_shard (take l.shard-index l.shards)
