use Rattle.waiting.proofs.Lines.{older_so, weaker_some}
use Rattle.waiting.proofs.waiters.Waiters.take_older.Goals as goal

pub returns-then-has_older-clause-some : goal.returns-then-has_older-clause-some
returns-then-has_older-clause-some g c =
    let older = older_so c.args.limit c.args.self.now.waiting c.has_older.result
    c.has_older.ensures c.if-has_older.true in
    weaker_some c.take_oldest.result _ _ (λ x t. record { takes = t; older = older })
    c.take_oldest.ensures.some
