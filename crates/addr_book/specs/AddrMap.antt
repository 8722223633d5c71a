-- Where the numbers of addresses are kept.
use Rattle.std.specs.Prelude.{ℕ, ◌+◌, ◌*◌, ◌/◌, ◌%◌, Option, Some, None}
use Rattle.std.specs.declared.sync.Arc.{Arc}
use Rattle.std.specs.declared.alloc.Global.{Global}
use Rattle.std.specs.Arc.{arc_value}
use Rattle.std.specs.FinMap.{FinMap, empty}
use Rattle.addr_book.specs.declared.addr.Addr.{Addr}
use Rattle.addr_book.specs.declared.addr_shard.AddrShard.{AddrShard}
use Rattle.addr_book.specs.AddrList.{addr_cmp}

-- the place of an address: its shard among 13, the same for 16 hosts in a row and 16 ports in a row
unfoldable pub addr_place : Addr → ℕ
addr_place addr = (addr.ip / 16 * 65536 + addr.port / 16) % 13

-- what a shard has: nothing where it is not there
abbrev pub addr_shard : Option (Arc AddrShard Global) → FinMap addr_cmp ℕ
addr_shard None = empty
addr_shard (Some shard) = arc_value shard
