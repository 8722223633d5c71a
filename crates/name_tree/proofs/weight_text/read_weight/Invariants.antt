use Rattle.std.proofs.Common.{◌≡◌, drop}
use Rattle.name_tree.specs.Weight.{whole_from, weight_of}
use Rattle.name_tree.proofs.weight_text.read_weight.Given as goal

abbrev pub invariant-loop-at : goal.invariant-loop-at
invariant-loop-at l = whole_from l.whole.value l.whole.digits (drop l.at l.text) ≡ weight_of l.text
