use Rattle.std.proofs.Common.{ap, sym, subst, arith}
use mathlib.Core.List.{IsPrefix}
use Rattle.snap_cell.proofs.Prefixes.{prefix_shorter, longer_first, longer_second}
use Rattle.snap_cell.proofs.history.Prefix.longer.Goals as goal

pub returns-then-self-other-clause-longer : goal.returns-then-self-other-clause-longer
returns-then-self-other-clause-longer g c =
    let self = c.args.self.now in
    let other = c.args.other.now in
    rw (c.again.ensures) (sym
    (longer_second self.seen.log other.seen.log
    (omega (arith, self.counted, other.counted, c.if-self-other.true))))

pub returns-then-self-other-clause-this : goal.returns-then-self-other-clause-this
returns-then-self-other-clause-this g c =
    let self = c.args.self.now in
    let other = c.args.other.now in
    let both = c.learn.new.self.log in
    let this : IsPrefix self.seen.log both =
    subst (λ l. IsPrefix l both) (ap (λ s. s.log) c.again-both.ensures) c.learn.ensures.2 in
    rw (c.again.ensures) (prefix_shorter self.seen.log other.seen.log both this c.learn.ensures.3
    (omega (arith, self.counted, other.counted, c.if-self-other.true)))

pub returns-clause-longer : goal.returns-clause-longer
returns-clause-longer g c =
    let self = c.args.self.now in
    let other = c.args.other.now in
    rw (c.again-else-self-other.ensures)
    (sym (longer_first self.seen.log other.seen.log
    (omega (arith, self.counted, other.counted, c.if-self-other.false))))

pub returns-clause-that : goal.returns-clause-that
returns-clause-that g c =
    let self = c.args.self.now in
    let other = c.args.other.now in
    let both = c.learn.new.self.log in
    let this : IsPrefix self.seen.log both =
    subst (λ l. IsPrefix l both) (ap (λ s. s.log) c.again-both.ensures) c.learn.ensures.2 in
    rw (c.again-else-self-other.ensures)
    (prefix_shorter other.seen.log self.seen.log both c.learn.ensures.3 this
    (omega (arith, self.counted, other.counted, c.if-self-other.false)))
