use Rattle.one_history.proofs.Growing.{placed_called}
use Rattle.one_history.proofs.laws.calls_place_items.Goals as goal

pub returns : goal.returns
returns g c = λ is_change publishes. placed_called is_change publishes
