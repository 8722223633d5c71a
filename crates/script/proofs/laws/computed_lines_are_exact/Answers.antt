use Rattle.script.proofs.CommandTexts.{lines}
use Rattle.script.proofs.laws.computed_lines_are_exact.Goals as goal

pub returns : goal.returns
returns c = lines c.computed_values_are_exact.ensures.paths c.computed_values_are_exact-2.ensures
    c.computed_weights_are_exact.ensures
