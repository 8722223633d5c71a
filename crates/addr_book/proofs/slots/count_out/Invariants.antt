use Rattle.std.proofs.Common.{◌≡◌, ◌-◌, take}
use Rattle.std.specs.Prelude.{if◌then◌else◌}
use Rattle.addr_book.specs.declared.addr.Addr.{Addr}
use Rattle.addr_book.specs.AddrList.{has_addr}
use Rattle.addr_book.specs.Uses.{count_at}
use Rattle.addr_book.proofs.slots.count_out.Given as goal

abbrev pub invariant-loop-item : goal.invariant-loop-item
invariant-loop-item l = (a : Addr) → count_at l.counts a
    ≡ count_at l.fn.uses a - (if has_addr (take l.item-index l.list) a then 1 else 0)
