use Rattle.metrics_text.specs.Metrics.{own_text}
use Rattle.metrics_text.proofs.Joins.{last, more}
use Rattle.metrics_text.proofs.metrics.put_own.Goals as goal

pub returns : goal.returns
unfolding own_text
returns c =
    let e2 = more _ _ _ _ _ c.in_ok-put_head.ensures c.in_ok-put_own_head.ensures in
    let e3 = more _ _ _ _ _ e2 c.in_ok-put_own_framing.ensures in
    let e4 = more _ _ _ _ _ e3 c.in_ok-put_own_name.ensures in
    last _ _ _ _ _ _ e4 c.put_own_replica.ensures
