-- What the code's services stand for.
use Rattle.std.specs.Prelude.{ℕ, List}
use Rattle.std.specs.Arc.{arc_value}
use Rattle.addr_book.specs.declared.addr.Weighted.{Weighted}
use Rattle.addr_book.specs.declared.service_shard.Service.{Service}

abbrev pub served : Service → List ℕ × List Weighted
served item = (item.name, arc_value item.list)
