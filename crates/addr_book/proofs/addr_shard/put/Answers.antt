use Rattle.std.proofs.Common.{sym, ap, ◌∙◌, refl, subst}
use Rattle.addr_book.specs.AddrList.{addr_cmp}
use Rattle.addr_book.specs.AddrShard.{numbered}
use Rattle.addr_book.specs.Sorted.{map_of, IsInOrder}
use Rattle.addr_book.proofs.AddrLists.{addr_total}
use Rattle.addr_book.proofs.AddrMaps.{addr_only}
use Rattle.addr_book.proofs.Sorted.{sorted_place, map_place, sorted_gap, map_gap}
use Rattle.addr_book.proofs.addr_shard.put.Goals as goal

pub returns-in-Ok-clause-sorted : goal.returns-in-Ok-clause-sorted
returns-in-Ok-clause-sorted c =
    sorted_place addr_total addr_only numbered c.args.items.now.items c.requires c.args.addr
    c.in-Ok.at (rw (← c.as_slice.ensures.value) c.in-Ok.ensures.found)
    (record { addr = c.args.addr; number = c.args.number }) c.args.number refl

pub returns-in-Ok-clause-ok : goal.returns-in-Ok-clause-ok
returns-in-Ok-clause-ok c =
    map_place addr_total addr_only numbered c.args.items.now.items c.requires c.args.addr
    c.in-Ok.at (rw (← c.as_slice.ensures.value) c.in-Ok.ensures.found)
    (record { addr = c.args.addr; number = c.args.number }) c.args.number refl

pub returns-in_ok-insert-in-Err-clause-sorted : goal.returns-in_ok-insert-in-Err-clause-sorted
returns-in_ok-insert-in-Err-clause-sorted c =
    subst (IsInOrder addr_cmp numbered) (sym c.in_ok-insert-in-Err.ensures.items)
    (sorted_gap addr_total addr_only numbered c.args.items.now.items c.requires c.args.addr
    c.in-Err.at (rw (← c.as_slice.ensures.value) c.in-Err.ensures.absent)
    (record { addr = c.args.addr; number = c.args.number }) c.args.number refl)

pub returns-in_ok-insert-in-Err-clause-ok : goal.returns-in_ok-insert-in-Err-clause-ok
returns-in_ok-insert-in-Err-clause-ok c =
    ap (map_of numbered) c.in_ok-insert-in-Err.ensures.items
    ∙ map_gap addr_total addr_only numbered c.args.items.now.items c.requires c.args.addr
    c.in-Err.at (rw (← c.as_slice.ensures.value) c.in-Err.ensures.absent)
    (record { addr = c.args.addr; number = c.args.number }) c.args.number refl
