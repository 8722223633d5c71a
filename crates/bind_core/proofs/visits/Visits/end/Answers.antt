use Rattle.std.proofs.Common.{arith}
use Rattle.bind_core.proofs.Closing.{ended_at, ended_past}
use Rattle.bind_core.proofs.visits.Visits.end.Goals as goal

pub returns-then-at-len-clause-items : goal.returns-then-at-len-clause-items
returns-then-at-len-clause-items c =
    ended_at c.args.visit c.in-Some.at c.args.self.now.items.items c.index_mut.result.now
    c.of.result _ c.in-Some.is c.of.ensures c.index_mut.ensures.value

pub returns-else-at-len-clause-items : goal.returns-else-at-len-clause-items
returns-else-at-len-clause-items c =
    ended_past c.args.visit c.in-Some.at c.args.self.now.items.items _ c.in-Some.is
    (omega (arith, c.if-at-len.false, c.len.ensures))
