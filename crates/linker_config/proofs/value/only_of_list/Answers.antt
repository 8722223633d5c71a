use Rattle.std.proofs.Common.{◌≡◌, length, sym, arith}
use Rattle.linker_config.proofs.Arrays.{only-other}
use Rattle.linker_config.proofs.value.only_of_list.Goals as goal

pub returns : goal.returns
returns c =
    let other : length c.args.list.now.items ≡ 1 → ⊥ = omega arith in
    sym (only-other c.args.list.now.items other)
