use Rattle.std.proofs.Common.{◌≡◌, map, take}
use Rattle.addr_book.specs.ServiceShard.{served}
use Rattle.addr_book.proofs.service_shard.shared.Given as goal

abbrev pub invariant-loop-item : goal.invariant-loop-item
invariant-loop-item l = map served l.copy.items ≡ map served (take l.item-index l.items)
