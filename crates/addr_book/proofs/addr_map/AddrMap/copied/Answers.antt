use Rattle.std.proofs.Common.{sym, ap, ◌∙◌, subst, map}
use Rattle.addr_book.specs.AddrMap.{addr_place, addr_shard}
use Rattle.addr_book.specs.Shards.{whole, IsSharded}
use Rattle.addr_book.proofs.addr_map.AddrMap.copied.Goals as goal

pub invariant_of-result : goal.invariant_of-result
invariant_of-result c = subst (IsSharded addr_place 13)
    (sym (c.in_ok-shared_shards.ensures ∙ ap (map addr_shard) c.as_slice.ensures.value))
    c.self.invariant

pub returns : goal.returns
returns c = ap whole (c.in_ok-shared_shards.ensures ∙ ap (map addr_shard) c.as_slice.ensures.value)
    ∙ c.self.view_is
