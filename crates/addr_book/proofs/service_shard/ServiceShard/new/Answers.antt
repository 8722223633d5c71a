use Rattle.std.proofs.Common.{ap, ◌∙◌}
use Rattle.std.specs.Cmp.Lexicographic.{nat_list_cmp_total}
use Rattle.addr_book.specs.ServiceShard.{served}
use Rattle.addr_book.specs.Sorted.{map_of}
use Rattle.addr_book.proofs.AddrMaps.{name_only}
use Rattle.addr_book.proofs.Sorted.{map_of_none}
use Rattle.addr_book.proofs.service_shard.ServiceShard.new.Goals as goal

pub returns : goal.returns
returns c = ap (map_of served) c.new.ensures.items ∙ map_of_none nat_list_cmp_total name_only served
