use Rattle.std.proofs.Common.{◌≡◌, length, sym, arith}
use Rattle.linker_config.proofs.Arrays.{at_most_one-more}
use Rattle.linker_config.proofs.namers.few_of_list.Goals as goal

pub returns-in_default : goal.returns-in_default
returns-in_default c =
    let none : length c.args.list.now.items ≡ 0 → ⊥ = omega arith in
    let one : length c.args.list.now.items ≡ 1 → ⊥ = omega arith in
    sym (at_most_one-more c.args.list.now.items none one)
