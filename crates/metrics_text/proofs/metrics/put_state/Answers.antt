use Rattle.metrics_text.specs.Metrics.{state_text}
use Rattle.metrics_text.proofs.Joins.{last, more}
use Rattle.metrics_text.proofs.metrics.put_state.Goals as goal

pub returns : goal.returns
unfolding state_text
returns c =
    let e2 = more _ _ _ _ _ c.in_ok-put_single.ensures c.in_ok-put_single-2.ensures in
    let e3 = more _ _ _ _ _ e2 c.in_ok-put_single-3.ensures in
    let e4 = more _ _ _ _ _ e3 c.in_ok-put_single-4.ensures in
    last _ _ _ _ _ _ e4 c.put_single-5.ensures
