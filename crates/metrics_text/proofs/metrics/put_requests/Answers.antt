use Rattle.metrics_text.specs.Metrics.{requests_text}
use Rattle.metrics_text.proofs.Joins.{last, more}
use Rattle.metrics_text.proofs.metrics.put_requests.Goals as goal

pub returns : goal.returns
unfolding requests_text
returns c =
    let e2 = more _ _ _ _ _ c.in_ok-put_head.ensures c.in_ok-put_class.ensures in
    let e3 = more _ _ _ _ _ e2 c.in_ok-put_class-2.ensures in
    let e4 = more _ _ _ _ _ e3 c.in_ok-put_class-3.ensures in
    let e5 = more _ _ _ _ _ e4 c.in_ok-put_class-4.ensures in
    let e6 = more _ _ _ _ _ e5 c.in_ok-put_class-5.ensures in
    last _ _ _ _ _ _ e6 c.put_class-6.ensures
