use Rattle.one_history.proofs.Growing.{call_counts}
use Rattle.one_history.proofs.laws.calls_count.Goals as goal

pub returns : goal.returns
returns g c = λ is_change publishes. call_counts is_change publishes
