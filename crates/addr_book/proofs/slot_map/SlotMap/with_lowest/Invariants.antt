use Rattle.std.proofs.Common.{◌≡◌, ◌+◌, ◌≤◌, drop}
use Rattle.std.specs.FinMap.{len}
use Rattle.addr_book.specs.Book.{assigned}
use Rattle.addr_book.proofs.SlotMaps.{Goes}
use Rattle.addr_book.proofs.slot_map.SlotMap.with_lowest.Given as goal

abbrev pub invariant-loop-at : goal.invariant-loop-at
invariant-loop-at l = record {
  goes : Goes l.slots (drop l.at l.news) (drop l.at l.free.items) l.at;
  same : assigned l.slots (drop l.at l.news) (drop l.at l.free.items)
      ≡ assigned l.fn.self l.news l.free.items;
  room : len l.slots ≤ len l.fn.self + l.at;
}
