use Rattle.metrics_text.specs.Metrics.{own_replica}
use Rattle.metrics_text.proofs.Joins.{last, more}
use Rattle.metrics_text.proofs.metrics.put_own_replica.Goals as goal

pub returns : goal.returns
unfolding own_replica
returns c =
    let e2 = more _ _ _ _ _ c.in_ok-put_reason.ensures c.in_ok-put_reason-2.ensures in
    let e3 = more _ _ _ _ _ e2 c.in_ok-put_reason-3.ensures in
    last _ _ _ _ _ _ e3 c.put_reason-4.ensures
