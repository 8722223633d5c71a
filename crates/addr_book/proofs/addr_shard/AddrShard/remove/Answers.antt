use Rattle.std.proofs.Common.{sym, ap, ◌∙◌, subst}
use Rattle.std.specs.FinMap.{remove}
use Rattle.addr_book.specs.AddrList.{addr_cmp}
use Rattle.addr_book.specs.AddrShard.{numbered}
use Rattle.addr_book.specs.Sorted.{map_of, IsInOrder}
use Rattle.addr_book.proofs.AddrLists.{addr_total}
use Rattle.addr_book.proofs.AddrMaps.{addr_only}
use Rattle.addr_book.proofs.Sorted.{sorted_gone, map_gone, map_gone_gap}
use Rattle.addr_book.proofs.addr_shard.AddrShard.remove.Goals as goal

pub invariant_of-self : goal.invariant_of-self
invariant_of-self c =
    subst (IsInOrder addr_cmp numbered) (sym c.remove.ensures.items)
    (sorted_gone addr_total addr_only numbered c.self.inside.items.items c.self.invariant
    c.args.addr c.in-Ok.at (rw (← c.as_slice.ensures.value) c.in-Ok.ensures.found) c.remove.result)

pub returns-in-Ok : goal.returns-in-Ok
returns-in-Ok c =
    ap (map_of numbered) c.remove.ensures.items
    ∙ (map_gone addr_total addr_only numbered c.self.inside.items.items c.self.invariant
    c.args.addr c.in-Ok.at (rw (← c.as_slice.ensures.value) c.in-Ok.ensures.found) c.remove.result
    ∙ ap (λ m. remove m c.args.addr) c.self.view_is)

pub returns-in_default : goal.returns-in_default
returns-in_default c =
    sym c.self.view_is
    ∙ (map_gone_gap addr_total addr_only numbered c.self.inside.items.items c.self.invariant
    c.args.addr c.in_default.field-0 (rw (← c.as_slice.ensures.value) c.in_default.ensures.absent)
    ∙ ap (λ m. remove m c.args.addr) c.self.view_is)
