use Rattle.std.specs.Prelude.{false}
use Rattle.api_sessions.proofs.Carrying.{written_as}
use Rattle.api_sessions.proofs.answering.tell.Goals as goal

pub returns : goal.returns
returns c =
    written_as _ _ c.args.delivery false c.write.result c.in_ok-response.ensures c.write.ensures
