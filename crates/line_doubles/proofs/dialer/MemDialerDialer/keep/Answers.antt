use Rattle.line_doubles.proofs.Links.{puts_aside}
use Rattle.line_doubles.proofs.dialer.MemDialerDialer.keep.Goals as goal

pub returns-in-Some-clause-others : goal.returns-in-Some-clause-others
returns-in-Some-clause-others c =
    rw (← c.self.view_is)
    (puts_aside c.self.inside.open_to c.in-Some.address c.is_empty-is_quiet.result
    c.self.inside.kept.items c.push_reserved-in-Some.new.self.items c.in-Some.is
    c.push_reserved-in-Some.ensures.items)
