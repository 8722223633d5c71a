use Rattle.std.proofs.Common.{◌≡◌, ◌≤◌, length, take}
use Rattle.addr_book.specs.declared.addr.Addr.{Addr}
use Rattle.addr_book.specs.AddrList.{has_addr}
use Rattle.addr_book.proofs.front.common_front.Given as goal

abbrev pub invariant-loop-at : goal.invariant-loop-at
invariant-loop-at l = record {
  other : l.at ≤ length l.other;
  same : (addr : Addr) → has_addr (take l.at l.one) addr ≡ has_addr (take l.at l.other) addr;
}
