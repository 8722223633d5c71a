use Rattle.retry_budget.proofs.Bounding.{retries_bounded}
use Rattle.retry_budget.proofs.laws.retries_are_bounded.Goals as goal

pub returns : goal.returns
returns c = retries_bounded
