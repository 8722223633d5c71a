-- Where services are kept.
use Rattle.std.specs.Prelude.{ℕ, ◌%◌, List, Option, Some, None}
use Rattle.std.specs.declared.sync.Arc.{Arc}
use Rattle.std.specs.declared.alloc.Global.{Global}
use Rattle.std.specs.Arc.{arc_value}
use Rattle.std.specs.FinMap.{empty}
use Rattle.text_parts.specs.Hash.{text_hash}
use Rattle.addr_book.specs.declared.service_shard.ServiceShard.{ServiceShard}
use Rattle.addr_book.specs.Book.{Services}

-- the place of a service: its shard among 61
unfoldable pub name_place : List ℕ → ℕ
name_place name = text_hash name % 61

-- what a shard has: nothing where it is not there
abbrev pub service_shard : Option (Arc ServiceShard Global) → Services
service_shard None = empty
service_shard (Some shard) = arc_value shard
