-- What the code's numbers of addresses stand for.
use Rattle.std.specs.Prelude.{ℕ}
use Rattle.addr_book.specs.declared.addr.Addr.{Addr}
use Rattle.addr_book.specs.declared.addr_shard.Numbered.{Numbered}

abbrev pub numbered : Numbered → Addr × ℕ
numbered item = (item.addr, item.number)
