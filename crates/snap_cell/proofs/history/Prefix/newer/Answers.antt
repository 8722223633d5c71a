use Rattle.std.proofs.Common.{ap, subst}
use mathlib.Core.List.{IsPrefix}
use Rattle.snap_cell.proofs.Prefixes.{prefix_shorter}
use Rattle.snap_cell.proofs.history.Prefix.newer.Goals as goal

pub returns-clause-this : goal.returns-clause-this
returns-clause-this g c =
    let self = c.args.self.now in
    let other = c.args.other.now in
    let both = c.learn.new.self.log in
    let this : IsPrefix self.seen.log both =
    subst (λ l. IsPrefix l both) (ap (λ s. s.log) c.again-both.ensures) c.learn.ensures.2 in
    rw (c.again.ensures) (prefix_shorter self.seen.log other.seen.log both this c.learn.ensures.3
    c.requires.longer)
