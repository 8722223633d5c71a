use Rattle.choose_core.proofs.Equals.{equal_pairs}
use Rattle.choose_core.proofs.laws.equal_weights_do_not_matter.Goals as goal

pub returns-clause-pairs : goal.returns-clause-pairs
returns-clause-pairs c = equal_pairs
