use Rattle.metrics_text.specs.Metrics.{services_text}
use Rattle.metrics_text.proofs.Joins.{last, more}
use Rattle.metrics_text.proofs.metrics.put_services.Goals as goal

pub returns : goal.returns
unfolding services_text
returns c =
    let e2 = more _ _ _ _ _ c.in_ok-put_head.ensures c.in_ok-put_figures.ensures in
    let e3 = more _ _ _ _ _ e2 c.in_ok-put_head-2.ensures in
    last _ _ _ _ _ _ e3 c.put_figures-2.ensures
