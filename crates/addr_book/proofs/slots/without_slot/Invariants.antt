use Rattle.std.proofs.Common.{◌≡◌, take}
use Rattle.addr_book.specs.Book.{newcomers}
use Rattle.addr_book.proofs.slots.without_slot.Given as goal

abbrev pub invariant-loop-item : goal.invariant-loop-item
invariant-loop-item l = l.news.items ≡ newcomers l.slots (take l.item-index l.list)
