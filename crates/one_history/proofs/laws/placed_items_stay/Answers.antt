use Rattle.one_history.proofs.Growing.{placed_grown}
use Rattle.one_history.proofs.laws.placed_items_stay.Goals as goal

pub returns : goal.returns
returns g c = λ is_change publishes. placed_grown is_change publishes
