use Rattle.addr_book.proofs.Sound.{no_services}
use Rattle.addr_book.proofs.parts.Parts.new.Goals as goal

pub returns-clause-sound : goal.returns-clause-sound
returns-clause-sound c =
    rw (c.in_ok-new.ensures, c.in_ok-new-2.ensures.slots, c.in_ok-new-2.ensures.uses) no_services
