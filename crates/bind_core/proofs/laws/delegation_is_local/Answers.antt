use Rattle.bind_core.proofs.Local.{is_local}
use Rattle.bind_core.proofs.laws.delegation_is_local.Goals as goal

pub returns : goal.returns
returns c = is_local
