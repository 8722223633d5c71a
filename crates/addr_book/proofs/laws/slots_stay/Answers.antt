use Rattle.addr_book.proofs.SlotLaws.{slots_stay}
use Rattle.addr_book.proofs.laws.slots_stay.Goals as goal

pub returns : goal.returns
returns c = slots_stay
