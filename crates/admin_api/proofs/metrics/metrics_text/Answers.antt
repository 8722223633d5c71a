use Rattle.std.proofs.Common.{ap, ◌∙◌}
use Rattle.metrics_text.specs.Metrics.{metrics_text}
use Rattle.admin_api.proofs.metrics.metrics_text.Goals as goal

pub returns : goal.returns
returns c = record {
  shown = c.in_ok-shown.shown.items;
  same = c.in_ok-shown.ensures;
  is =
      c.in_ok-write_metrics.ensures.ok
      ∙ ap (metrics_text c.args.counts.now) c.as_slice.ensures.value;
}
