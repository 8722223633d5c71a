use Rattle.line_doubles.proofs.Pieces.{given_from}
use Rattle.line_doubles.proofs.dialer.MemDialerDialer.recv.Goals as goal

pub returns-clause-bytes : goal.returns-clause-bytes
returns-clause-bytes c = rw (← c.self.view_is)
    (given_from c.give-count.new.into _ c.give-count.new.self _ _ c.give-count.ensures.count
    c.in-Ok.ensures.size.1 c.give-count.ensures.given c.give-count.ensures.rest)
