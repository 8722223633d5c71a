use Rattle.std.proofs.Common.{◌≡◌, take}
use Rattle.std.specs.BTreeSet.{contains}
use Rattle.addr_book.specs.declared.addr.Addr.{Addr}
use Rattle.addr_book.specs.AddrList.{addr_cmp, first_places, has_addr}
use Rattle.addr_book.proofs.addr_list.AddrList.distinct.Given as goal

abbrev pub invariant-loop-item : goal.invariant-loop-item
invariant-loop-item l = record {
  kept : l.items.items ≡ first_places (take l.item-index l.given);
  seen : (q : Addr) → contains addr_cmp l.seen q ≡ has_addr (take l.item-index l.given) q;
}
