use Rattle.api_wire.specs.Response.{response_value}
use Rattle.api_sessions.proofs.Doing.{told_metrics}
use Rattle.api_sessions.proofs.answering.write_metrics.Goals as goal

pub returns : goal.returns
returns c =
    told_metrics c.args.told c.args.sums.now c.args.delivery
    (response_value c.in_ok-response.response) c.write.result c.in_ok-response.ensures
    c.write.ensures
