use Rattle.one_history.proofs.Growing.{counts_stay}
use Rattle.one_history.proofs.laws.counts_stay.Goals as goal

pub returns : goal.returns
returns g c = λ is_change publishes. counts_stay is_change publishes
