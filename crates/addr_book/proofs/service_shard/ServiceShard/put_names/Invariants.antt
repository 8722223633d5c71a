use Rattle.std.proofs.Common.{◌≡◌, ◌++◌, map, take}
use Rattle.addr_book.proofs.service_shard.ServiceShard.put_names.Given as goal

abbrev pub invariant-loop-item : goal.invariant-loop-item
invariant-loop-item l = l.names.items ≡ l.fn.names.items
    ++ map (λ item. item.name) (take l.item-index l.item-items)
