use Rattle.metrics_text.specs.Metrics.{delegations_text}
use Rattle.metrics_text.proofs.Joins.{last, more}
use Rattle.metrics_text.proofs.metrics.put_delegations.Goals as goal

pub returns : goal.returns
unfolding delegations_text
returns c =
    let e2 = more _ _ _ _ _ c.in_ok-put_single.ensures c.in_ok-put_single-2.ensures in
    last _ _ _ _ _ _ e2 c.put_single-3.ensures
