use Rattle.std.proofs.Common.{◌<◌, arith}
use Rattle.name_tree.proofs.Numbers.{six_digits}
use Rattle.name_tree.proofs.weight_text.read_weight.Goals as goal

pub returns-clause-below : goal.returns-clause-below
returns-clause-below c =
    let whole = c.loop-at.whole in
    let few : c.loop-at.whole.value < 1000000 =
    six_digits whole.value whole.digits whole.below whole.few in
    omega (arith, c.millionths.ensures)
