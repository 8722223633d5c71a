use Rattle.std.proofs.Common.{ap, ◌∙◌}
use Rattle.addr_book.specs.AddrShard.{numbered}
use Rattle.addr_book.specs.Sorted.{map_of}
use Rattle.addr_book.proofs.AddrLists.{addr_total}
use Rattle.addr_book.proofs.AddrMaps.{addr_only}
use Rattle.addr_book.proofs.Sorted.{map_of_none}
use Rattle.addr_book.proofs.addr_shard.AddrShard.new.Goals as goal

pub returns : goal.returns
returns c = ap (map_of numbered) c.new.ensures.items ∙ map_of_none addr_total addr_only numbered
