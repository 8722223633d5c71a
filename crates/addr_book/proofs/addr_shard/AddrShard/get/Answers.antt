use Rattle.std.proofs.Common.{sym, ap, ◌∙◌}
use Rattle.std.specs.FinMap.{get}
use Rattle.addr_book.specs.AddrShard.{numbered}
use Rattle.addr_book.proofs.AddrLists.{addr_total}
use Rattle.addr_book.proofs.AddrMaps.{addr_only}
use Rattle.addr_book.proofs.Sorted.{get_place, get_gap}
use Rattle.addr_book.proofs.addr_shard.AddrShard.get.Goals as goal

pub returns-in-Ok : goal.returns-in-Ok
returns-in-Ok c =
    sym (get_place addr_total addr_only numbered c.self.inside.items.items c.self.invariant
    c.args.addr c.in-Ok.at (rw (← c.as_slice.ensures.value) c.in-Ok.ensures.found)
    c.index.result.now c.index.ensures)
    ∙ ap (λ m. get m c.args.addr) c.self.view_is

pub returns-in-Err : goal.returns-in-Err
returns-in-Err c =
    sym (get_gap addr_total addr_only numbered c.self.inside.items.items c.self.invariant
    c.args.addr c.in-Err.field-0 (rw (← c.as_slice.ensures.value) c.in-Err.ensures.absent))
    ∙ ap (λ m. get m c.args.addr) c.self.view_is
