use Rattle.std.proofs.Common.{sym, ap, ◌∙◌}
use Rattle.std.specs.FinMap.{get, get-empty}
use Rattle.addr_book.specs.AddrList.{addr_cmp}
use Rattle.addr_book.specs.AddrMap.{addr_place, addr_shard}
use Rattle.addr_book.proofs.AddrLists.{addr_total}
use Rattle.addr_book.proofs.AddrMaps.{addr_only}
use Rattle.addr_book.proofs.Shards.{read_gets}
use Rattle.addr_book.proofs.addr_map.AddrMap.get.Goals as goal

pub returns-in-Some : goal.returns-in-Some
returns-in-Some c =
    c.get.ensures
    ∙ (ap (λ m. get m c.args.addr) (c.deref.ensures ∙ ap addr_shard (sym c.in-Some.is))
    ∙ (read_gets addr_total addr_only addr_place addr_shard 13 c.self.inside.shards.items
    c.self.invariant c.args.addr c.place_of.result c.place_of.ensures.place
    c.place_of.ensures.below c.index.result.now c.index.ensures
    ∙ ap (λ m. get m c.args.addr) c.self.view_is))

pub returns-in-None : goal.returns-in-None
returns-in-None c =
    sym (get-empty addr_cmp c.args.addr)
    ∙ (ap (λ s. get (addr_shard s) c.args.addr) (sym c.in-None.is)
    ∙ (read_gets addr_total addr_only addr_place addr_shard 13 c.self.inside.shards.items
    c.self.invariant c.args.addr c.place_of.result c.place_of.ensures.place
    c.place_of.ensures.below c.index.result.now c.index.ensures
    ∙ ap (λ m. get m c.args.addr) c.self.view_is))
