use Rattle.metrics_text.specs.Metrics.{bytes_text}
use Rattle.metrics_text.proofs.Joins.{last}
use Rattle.metrics_text.proofs.metrics.put_bytes.Goals as goal

pub returns : goal.returns
unfolding bytes_text
returns c =
    last _ _ _ _ _ _ c.in_ok-put_single.ensures c.put_single-2.ensures
