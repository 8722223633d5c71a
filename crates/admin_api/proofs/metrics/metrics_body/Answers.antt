use Rattle.std.proofs.Common.{◌≡◌, ap, arith, length, ◌∙◌}
use Rattle.std.specs.Vec.{vec_len}
use Rattle.machine.specs.Code.{reply_value}
use Rattle.scrape.specs.Counts.{counts_by}
use Rattle.admin_api.specs.Metrics.{state_of, sum_at}
use Rattle.admin_api.proofs.Scraped.{body_as}
use Rattle.admin_api.proofs.metrics.metrics_body.Goals as goal

pub returns-in-Services : goal.returns-in-Services
returns-in-Services c =
    let told = c.in-Services in
    let long : vec_len told.services ≡ length told.services.items =
    omega (arith, told.services.ok.0) in
    body_as c.args.said.now c.args.sums.now told.changes told.marks told.namespaces
    told.tables_written told.services.items c.args.kept c.counts.result c.as_slice.result.now
    c.metrics_text.result
    (ap reply_value told.is)
    (c.counts.ensures
    ∙ (λ k. counts_by (sum_at c.args.sums.now)
    (state_of told.changes (c.from.ensures k) (c.from-in-Services.ensures k) told.tables_written
    ((c.len.ensures ∙ long) k) c.args.kept)))
    c.as_slice.ensures.value c.metrics_text.ensures
