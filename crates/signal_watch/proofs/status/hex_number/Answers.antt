use Rattle.std.proofs.Common.{sym, ◌∙◌}
use Rattle.signal_watch.proofs.Digits.{at_end}
use Rattle.signal_watch.proofs.status.hex_number.Goals as goal

pub returns : goal.returns
returns c =
    sym (at_end c.loop-first.number c.loop-first.rest.now c.in_default.ensures.cases)
    ∙ c.loop-first.invariant.number
