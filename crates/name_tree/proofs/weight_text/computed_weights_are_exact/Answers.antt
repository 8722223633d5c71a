use Rattle.name_tree.proofs.WeightTexts.{computes_weights}
use Rattle.name_tree.proofs.weight_text.computed_weights_are_exact.Goals as goal

pub returns : goal.returns
returns c = computes_weights
