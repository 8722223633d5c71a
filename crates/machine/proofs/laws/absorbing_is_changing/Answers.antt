use Rattle.machine.proofs.Absorbing.{absorbing_is_changing}
use Rattle.machine.proofs.laws.absorbing_is_changing.Goals as goal

pub returns : goal.returns
returns c = absorbing_is_changing
