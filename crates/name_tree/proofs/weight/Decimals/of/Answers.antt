use Rattle.std.proofs.Common.{◌<◌, arith}
use Rattle.name_tree.proofs.Numbers.{six_digits}
use Rattle.name_tree.proofs.weight.Decimals.of.Goals as goal

pub invariant_of-result : goal.invariant_of-result
invariant_of-result c =
    let few : c.args.whole.value < 1000000 =
    six_digits c.args.whole.value c.args.whole.digits c.args.whole.below c.args.whole.few in
    record { below = omega arith; room = omega arith }
