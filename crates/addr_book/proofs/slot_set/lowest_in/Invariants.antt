use Rattle.std.proofs.Common.{◌≡◌, ◌*◌}
use Rattle.addr_book.specs.SlotSet.{has_slot, open_slots}
use Rattle.addr_book.proofs.slot_set.lowest_in.Given as goal

abbrev pub invariant-loop-at : goal.invariant-loop-at
invariant-loop-at l = l.slots.items ≡ open_slots (has_slot l.words) (l.at * 64) 0
