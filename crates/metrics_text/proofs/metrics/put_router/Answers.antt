use Rattle.metrics_text.specs.Metrics.{router_text}
use Rattle.metrics_text.proofs.Joins.{last, more}
use Rattle.metrics_text.proofs.metrics.put_router.Goals as goal

pub returns : goal.returns
unfolding router_text
returns c =
    let e2 = more _ _ _ _ _ c.in_ok-put_state.ensures c.in_ok-put_requests.ensures in
    let e3 = more _ _ _ _ _ e2 c.in_ok-put_own.ensures in
    let e4 = more _ _ _ _ _ e3 c.in_ok-put_tries.ensures in
    let e5 = more _ _ _ _ _ e4 c.in_ok-put_connections.ensures in
    let e6 = more _ _ _ _ _ e5 c.in_ok-put_bytes.ensures in
    let e7 = more _ _ _ _ _ e6 c.in_ok-put_delegations.ensures in
    last _ _ _ _ _ _ e7 c.put_log.ensures
