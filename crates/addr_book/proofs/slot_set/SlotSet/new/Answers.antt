use Rattle.addr_book.proofs.Bits.{no_slot}
use Rattle.addr_book.proofs.slot_set.SlotSet.new.Goals as goal

pub returns : goal.returns
returns c = no_slot _ 128 (c.in_ok-from_elem.ensures.items_if_clones_equal (λ y e. e))
