use Rattle.http_wire.proofs.Lists.{trimmed_both}
use Rattle.http_wire.proofs.list.trimmed.Goals as goal

pub returns : goal.returns
returns c = trimmed_both _ _ _ c.trimmed_start.ensures c.trimmed_end.ensures
