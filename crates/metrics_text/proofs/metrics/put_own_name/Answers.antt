use Rattle.metrics_text.specs.Metrics.{own_name}
use Rattle.metrics_text.proofs.Joins.{last, more}
use Rattle.metrics_text.proofs.metrics.put_own_name.Goals as goal

pub returns : goal.returns
unfolding own_name
returns c =
    let e2 = more _ _ _ _ _ c.in_ok-put_reason.ensures c.in_ok-put_reason-2.ensures in
    let e3 = more _ _ _ _ _ e2 c.in_ok-put_reason-3.ensures in
    let e4 = more _ _ _ _ _ e3 c.in_ok-put_reason-4.ensures in
    last _ _ _ _ _ _ e4 c.put_reason-5.ensures
