use Rattle.std.proofs.Common.{ap, ◌∙◌}
use Rattle.std.specs.FinMap.{remove}
use Rattle.addr_book.specs.AddrMap.{addr_place, addr_shard}
use Rattle.addr_book.proofs.AddrLists.{addr_total}
use Rattle.addr_book.proofs.AddrMaps.{addr_only}
use Rattle.addr_book.proofs.Shards.{shards_remove, sharded_remove}
use Rattle.addr_book.proofs.addr_map.AddrMap.without.Goals as goal

pub invariant_of-result : goal.invariant_of-result
invariant_of-result c =
    sharded_remove addr_total addr_only addr_place addr_shard 13 c.self.inside.shards.items
    c.self.invariant c.args.addr c.place_of.result c.place_of.ensures.place
    c.place_of.ensures.below c.remove_at.new.shards.items c.in_ok-remove_at.ensures

pub returns : goal.returns
returns c =
    shards_remove addr_total addr_only addr_place addr_shard 13 c.self.inside.shards.items
    c.self.invariant c.args.addr c.place_of.result c.place_of.ensures.place
    c.place_of.ensures.below c.remove_at.new.shards.items c.in_ok-remove_at.ensures
    ∙ ap (λ m. remove m c.args.addr) c.self.view_is
