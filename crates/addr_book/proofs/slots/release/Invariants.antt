use Rattle.std.proofs.Common.{◌≡◌, take, None}
use Rattle.std.specs.Prelude.{if◌then◌else◌, ◌&&◌, ◌==◌}
use Rattle.std.specs.FinMap.{get}
use Rattle.addr_book.specs.declared.addr.Addr.{Addr}
use Rattle.addr_book.specs.AddrList.{has_addr}
use Rattle.addr_book.specs.Uses.{count_at}
use Rattle.addr_book.proofs.slots.release.Given as goal

abbrev pub invariant-loop-item : goal.invariant-loop-item
invariant-loop-item l = (a : Addr) → get l.kept a
    ≡ (if has_addr (take l.item-index l.list) a
    && (count_at l.uses a == 0) then None else get l.fn.slots a)
