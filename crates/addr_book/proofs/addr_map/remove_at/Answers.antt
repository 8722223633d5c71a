use Rattle.std.proofs.Common.{refl}
use Rattle.addr_book.specs.AddrMap.{addr_shard}
use Rattle.addr_book.proofs.AddrLists.{addr_total}
use Rattle.addr_book.proofs.AddrMaps.{addr_only}
use Rattle.addr_book.proofs.Shards.{none_removed}
use Rattle.addr_book.proofs.addr_map.remove_at.Goals as goal

pub returns-in_default : goal.returns-in_default
returns-in_default c =
    none_removed addr_total addr_only addr_shard refl c.args.shards.now.items c.args.place
    c.index_mut.result.now c.args.addr c.requires c.index_mut.ensures.value c.in_default.is
