use Rattle.line_doubles.proofs.Pieces.{given_from}
use Rattle.line_doubles.proofs.streams.MemSourceSource.read.Goals as goal

pub returns-then-count-eq0-clause-bytes : goal.returns-then-count-eq0-clause-bytes
returns-then-count-eq0-clause-bytes c =
    rw (← c.self.view_is)
    (given_from c.give-count.new.into _ c.give-count.new.self _ _ c.give-count.ensures.count
    c.in-Ok.ensures.size.1 c.give-count.ensures.given c.give-count.ensures.rest)
